-- The definitions of checks, tried on small examples.
use Rattle.std.proofs.Common.{◌≡◌, ℕ, ◌==◌, ◌||◌, [], ◌∷◌, ◌++◌, codes, refl}
use Rattle.std.specs.Fmt.{decimal, digits}
use Rattle.lc_base.specs.declared.reason.Reason.TheVariants.{EmptyRadix}
use Rattle.tool_check.specs.declared.fault.Fault.{Fault}
use Rattle.tool_check.specs.Checked.{AreMessages}
use Rattle.tool_check.specs.Summary.{row, count_below, keyword_count}

abbrev at : ℕ → ℕ → Fault
at line column = record { place = record { line = line; column = column }; reason = EmptyRadix }

-- the messages of two faults of a file
told : AreMessages (record { path = codes "de"; first_line = 2 } ∷ []) (at 3 1 ∷ at 4 7 ∷ []) (codes "de:2:1: EmptyRadix\nde:3:7: EmptyRadix\n")
unfolding digits
told = record {
  message = codes "de:2:1: EmptyRadix\n";
  rest = codes "de:3:7: EmptyRadix\n";
  parts = refl;
  is = record { spot = record { line = 2; column = 1 }; spot_is = λ _. refl; begins = record { rest = codes "\n"; parts = refl } };
  more = record {
    message = codes "de:3:7: EmptyRadix\n";
    rest = [];
    parts = refl;
    is = record { spot = record { line = 3; column = 7 }; spot_is = λ _. refl; begins = record { rest = codes "\n"; parts = refl } };
    more = refl;
  };
}

one_keyword : keyword_count 1 ≡ decimal 1 ++ codes " keyword"
one_keyword = refl

no_keywords : keyword_count 0 ≡ decimal 0 ++ codes " keywords"
no_keywords = refl

short_name : row (codes "LC_TIME") (codes "x") ≡ codes "LC_TIME        x" ++ 10 ∷ []
short_name = refl

long_name : row (codes "consonant_or_sign") (codes "x") ≡ codes "consonant_or_signx" ++ 10 ∷ []
long_name = refl

two_below : count_below (λ n. (n == 1) || (n == 4) || (n == 5)) 5 ≡ 2
unfolding count_below
two_below = refl
