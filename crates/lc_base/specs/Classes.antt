-- Character classes that others exclude, and their names (XBD 7.3.1).
use Rattle.std.specs.Prelude.{ℕ, List, codes}
use Rattle.lc_base.specs.declared.reason.Class.{Class}
use Rattle.lc_base.specs.declared.reason.Class.TheVariants.{Upper, Lower, Alpha, Digit, Space, Cntrl, Punct, Graph, Print, Xdigit}

-- the name of a class
abbrev pub class_name : Class → List ℕ
class_name Upper = codes "upper"
class_name Lower = codes "lower"
class_name Alpha = codes "alpha"
class_name Digit = codes "digit"
class_name Space = codes "space"
class_name Cntrl = codes "cntrl"
class_name Punct = codes "punct"
class_name Graph = codes "graph"
class_name Print = codes "print"
class_name Xdigit = codes "xdigit"
