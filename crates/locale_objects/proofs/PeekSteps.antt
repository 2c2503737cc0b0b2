-- The rows of a `Peek` and of what it lends.
use mathlib.Core.List.{[], ◌∷◌}
use mir.Syntax.{Args, a_type}
use denote.RattleType.{RattleType}
use denote.Param.{param, layouts}
use denote.Param.Laws.{Laws}
use Rattle.locale_objects.specs.contracts.peek.Peek as K-type

pub record One : Type 2 where
  pub key : RattleType
  pub key_laws : Laws key

module _ (E : One) where
  abbrev pub key_args : Args
  key_args = layouts (a_type ∷ []) (E.key, tt)

  abbrev pub RK : RattleType
  RK = param 0 E.key

  abbrev pub Kr : RattleType
  Kr = K-type.the_row RK
