use Rattle.std.proofs.Common.{refl}
use Rattle.notation.specs.Names.{ranges}
use Rattle.notation.specs.declared.names.Name.TheVariants.{Alpha, Digit, Alnum, Upper, Lower, Space, Blank, Punct, Print, Graph, Cntrl, Xdigit}
use Rattle.notation.specs.declared.tables.TheConstants.{ALPHA, DIGIT, ALNUM, UPPER, LOWER, SPACE, BLANK, PUNCT, PRINT, GRAPH, CNTRL, XDIGIT}
use Rattle.notation.proofs.ByteTests.{marks}
use Rattle.notation.proofs.names.Name.table.Goals as goal

pub returns-in-Alpha : goal.returns-in-Alpha
returns-in-Alpha c = record { value = rw c.in-Alpha.is (marks ALPHA (ranges Alpha) refl) }

pub returns-in-Digit : goal.returns-in-Digit
returns-in-Digit c = record { value = rw c.in-Digit.is (marks DIGIT (ranges Digit) refl) }

pub returns-in-Alnum : goal.returns-in-Alnum
returns-in-Alnum c = record { value = rw c.in-Alnum.is (marks ALNUM (ranges Alnum) refl) }

pub returns-in-Upper : goal.returns-in-Upper
returns-in-Upper c = record { value = rw c.in-Upper.is (marks UPPER (ranges Upper) refl) }

pub returns-in-Lower : goal.returns-in-Lower
returns-in-Lower c = record { value = rw c.in-Lower.is (marks LOWER (ranges Lower) refl) }

pub returns-in-Space : goal.returns-in-Space
returns-in-Space c = record { value = rw c.in-Space.is (marks SPACE (ranges Space) refl) }

pub returns-in-Blank : goal.returns-in-Blank
returns-in-Blank c = record { value = rw c.in-Blank.is (marks BLANK (ranges Blank) refl) }

pub returns-in-Punct : goal.returns-in-Punct
returns-in-Punct c = record { value = rw c.in-Punct.is (marks PUNCT (ranges Punct) refl) }

pub returns-in-Print : goal.returns-in-Print
returns-in-Print c = record { value = rw c.in-Print.is (marks PRINT (ranges Print) refl) }

pub returns-in-Graph : goal.returns-in-Graph
returns-in-Graph c = record { value = rw c.in-Graph.is (marks GRAPH (ranges Graph) refl) }

pub returns-in-Cntrl : goal.returns-in-Cntrl
returns-in-Cntrl c = record { value = rw c.in-Cntrl.is (marks CNTRL (ranges Cntrl) refl) }

pub returns-in-Xdigit : goal.returns-in-Xdigit
returns-in-Xdigit c = record { value = rw c.in-Xdigit.is (marks XDIGIT (ranges Xdigit) refl) }
