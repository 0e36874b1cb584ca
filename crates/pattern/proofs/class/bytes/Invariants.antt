use Rattle.pattern.proofs.ClassBytes.{EndsAs}
use Rattle.pattern.proofs.class.bytes.Given as goal

abbrev pub invariant-loop-byte : goal.invariant-loop-byte
invariant-loop-byte l = EndsAs l.inside l.byte-index l.class
