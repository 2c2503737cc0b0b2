-- What a thread's variables stand for.
use Rattle.std.specs.Prelude.{◌≡◌, ℕ, List}
use Rattle.script_wishes.specs.Variables.{Variable, Bindings, bound, Bound, bindings_of}

-- the variables of a thread stand for what these bindings of all threads say
abbrev pub BindsAs : ℕ → Bindings → List Bound → Type 0
BindsAs thread variables bounds = (variable : Variable) → bound variables variable ≡ bound (bindings_of thread bounds) variable
