-- Members that are added one after the other.
use Rattle.std.proofs.Common.{◌≡◌, ◌<◌, ◌+◌, map, length, get_or, drop, ℕ, List, [], ◌∷◌, ◌++◌, Ok, Err, refl, sym, ap, ◌∙◌, append_assoc}
use Rattle.std.proofs.lemmas.List.{append-nil, at_drop_more}
use Rattle.json.specs.Token.{Token}
use Rattle.lc_base.specs.declared.item.Item.{Item}
use Rattle.tool_messages.specs.declared.answer.Problem.{Problem}
use Rattle.tool_messages.specs.declared.answer.Problem.TheVariants.{Refused, Usage, Memory}
use Rattle.tool_reads.specs.Answers.{Defined, Tells, beside, and_then}
use Rattle.tool_reads.specs.JsonReads.{item_member, item_members}

regroup : (front more : List Token) (later : Defined (List Token)) → beside (front ++ more) later ≡ beside front (beside more later)
regroup front more (Ok xs) = ap {B = Defined (List Token)} (λ (x : List Token). Ok x) (append_assoc front more xs)
regroup front more (Err cause) = refl

abbrev tokens_of : Defined (List Token) → List Token
tokens_of (Ok tokens) = tokens
tokens_of (Err cause) = []

-- tokens that were added, and what stands behind them
added : (d later : Defined (List Token)) (front front' : List Token) → beside front d ≡ Ok front' → beside front (and_then d (λ (tokens : List Token). beside tokens later)) ≡ beside front' later
added (Ok tokens) later front front' is = sym (regroup front tokens later) ∙ ap (λ (f : List Token). beside f later) (ap tokens_of is)
added (Err cause) later front front' is = absurd (cc)

-- one more item
pub one_more_member : (text : Item → List ℕ) (asked : List (List ℕ)) (name : List ℕ) (names : List (List ℕ)) (front front' : List Token) (total : Defined (List Token)) → beside front (item_member text asked name) ≡ Ok front' → beside front (item_members text asked (name ∷ names)) ≡ total → beside front' (item_members text asked names) ≡ total
one_more_member text asked name names front front' total is so_far = sym (added (item_member text asked name) (item_members text asked names) front front' is) ∙ so_far

-- an item that no word names
pub no_member : (problem : Problem) (text : Item → List ℕ) (asked : List (List ℕ)) (name : List ℕ) (names : List (List ℕ)) (front : List Token) (total : Defined (List Token)) → Tells problem (item_member text asked name) → beside front (item_members text asked (name ∷ names)) ≡ total → Tells problem total
no_member Memory text asked name names front total told so_far = told
no_member (Usage message) text asked name names front total told so_far =
    sym so_far ∙ ap (λ (d : Defined (List Token)). beside front (and_then d (λ (tokens : List Token). beside tokens (item_members text asked names)))) told
no_member (Refused message) text asked name names front total told so_far =
    sym so_far ∙ ap (λ (d : Defined (List Token)). beside front (and_then d (λ (tokens : List Token). beside tokens (item_members text asked names)))) told

-- behind the last item
pub last_member : (text : Item → List ℕ) (asked : List (List ℕ)) (front : List Token) (total : Defined (List Token)) → beside front (item_members text asked []) ≡ total → total ≡ Ok front
last_member text asked front total so_far = sym so_far ∙ ap {B = Defined (List Token)} (λ (x : List Token). Ok x) (append-nil front)

-- the member of the next name of a list is added
pub member_step : {W : Type 0} (word : W → List ℕ) (text : Item → List ℕ) (asked : List (List ℕ)) (names : List W) (i : ℕ) (other : W) (front front' : List Token) (total : Defined (List Token)) → i < length names → beside front (item_member text asked (word (get_or names i other))) ≡ Ok front' → beside front (item_members text asked (map word (drop i names))) ≡ total → beside front' (item_members text asked (map word (drop (i + 1) names))) ≡ total
member_step word text asked names i other front front' total below is so_far =
    one_more_member text asked (word (get_or names i other)) (map word (drop (i + 1) names)) front front' total is
    (sym (at_drop_more (λ ws. beside front (item_members text asked (map word ws))) names i other below) ∙ so_far)
