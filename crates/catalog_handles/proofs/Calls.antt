-- What a turn and a meet say of a thread.
use Rattle.std.proofs.Common.{◌≡◌, ℕ, zero, suc, ◌+◌, ◌<◌, ◌≤◌, max, Bool, true, false, cond, List, [], ◌∷◌, length, map, Some, refl, ap, sym, ◌∙◌, subst, arith, inl, inr, eq-eqb}
use Rattle.std.specs.Prelude.{◌==◌, All}
use Rattle.std.specs.List.{range_with_len}
use Rattle.std.proofs.lemmas.Simd.{map-map}
use Rattle.std.proofs.lemmas.Bool.Decides.{eqb_tells}
use Rattle.std.proofs.lemmas.List.{length-map, map-append}
use Rattle.std.proofs.lemmas.List.Elements.{All-cons}
use Rattle.turn_gate.specs.declared.entry.Terms.{Terms}
use Rattle.turn_gate.specs.History as turns
use Rattle.turn_gate.specs.Callers.{Gate, Caller, IsSameCaller, InOrder, first_caller}
use Rattle.catalog_handles.specs.declared.setting.CatalogSetting.{CatalogSetting}
use Rattle.catalog_handles.specs.declared.stamped.StampedOp.{StampedOp}
use Rattle.catalog_handles.specs.declared.stamped.StampedReply.{StampedReply}
use Rattle.catalog_handles.specs.Entry.{Op, Reply, Entry, History}
use Rattle.catalog_handles.specs.Answer.{IsLegal, AreThreads}
use Rattle.catalog_handles.specs.Stamps.{last_stamp, IsRising, last_given, AreGiven}
use Rattle.catalog_handles.specs.Seen.{op_of, reply_of, entry_of, entries_of}
use Rattle.catalog_handles.specs.Reader.{ReaderData, reader_of, IsReaderOf, first_reader, GoesOnFrom, entries_by, IsSameReader, Answered, SawMore, IsInOrder, IsOrderly, IsUnused}

abbrev pub without_newest : History → History
without_newest [] = []
without_newest (e ∷ H) = H

own_if : (e : Entry) (H : History) (t : ℕ) (b : Bool) → (e.who == t) ≡ b → entries_by t (e ∷ H) ≡ cond b (e ∷ entries_by t H) (entries_by t H)
own_if e H t b is = ap (λ (x : Bool). cond x (e ∷ entries_by t H) (entries_by t H)) is

module _ {B : Type 0} (number : B → ℕ) where
  abbrev pub Calls : Type 0
  Calls = turns.History (StampedOp B) (StampedReply B)

  abbrev pub SeatOf : Type 0
  SeatOf = Caller CatalogSetting (StampedOp B) (StampedReply B)

  -- what is legal to a machine is a legal history of the catalogs
  abbrev pub legal_calls : CatalogSetting → Calls → Type 0
  legal_calls c H = IsLegal c (entries_of number H) × AreGiven H

  last_entry : (H : Calls) → last_stamp (entries_of number H) ≡ last_given H
  last_entry [] = refl
  last_entry (e ∷ H) = refl

  -- stamps that are the larger ones of two never fall
  pub given_rise : (H : Calls) → AreGiven H → IsRising (entries_of number H)
  given_rise [] given = tt
  given_rise (e ∷ H) given = (omega (arith, given.0, last_entry H), given_rise H given.1)

  pub extends_entries : (later earlier : Calls) → turns.Extends later earlier → GoesOnFrom (entries_of number later) (entries_of number earlier)
  extends_entries later earlier x = (entries_of number x.0, ap (entries_of number) x.1 ∙ map-append (entry_of number) x.0 earlier)

  calls_entries : (t : ℕ) (H : Calls) → entries_by t (entries_of number H) ≡ entries_of number (turns.calls_of t H)
  calls_entries t [] = refl
  calls_entries t (e ∷ H) =
      elim (eqb_tells e.who t) [
        | inl is ↦
            own_if (entry_of number e) (entries_of number H) t true is.0
            ∙ ap (λ (G : History). entry_of number e ∷ G) (calls_entries t H)
            ∙ sym (ap (λ (b : Bool). entries_of number (cond b (e ∷ turns.calls_of t H) (turns.calls_of t H))) is.0)
        | inr apart ↦
            own_if (entry_of number e) (entries_of number H) t false apart.0
            ∙ calls_entries t H
            ∙ sym (ap (λ (b : Bool). entries_of number (cond b (e ∷ turns.calls_of t H) (turns.calls_of t H))) apart.0)
      ]

  threads_entries : (n : ℕ) (H : Calls) → turns.AllBelow n H → AreThreads n (entries_of number H)
  threads_entries n [] b = tt
  threads_entries n (e ∷ H) b = (b.0, threads_entries n H b.1)

  in_order : (terms : Terms CatalogSetting) (c : SeatOf) → InOrder legal_calls terms c.number c.seen c.own → IsInOrder terms (reader_of number c)
  in_order terms c o = record {
    legal = o.legal_seen.0;
    rising = given_rise c.seen o.legal_seen.1;
    callers = threads_entries terms.seats c.seen o.below;
    calls = calls_entries c.number c.seen ∙ ap (entries_of number) o.own_calls;
    in_reach = o.in_reach;
  }

  same_reader : (c d : SeatOf) → IsSameCaller c d → IsSameReader (reader_of number c) (reader_of number d)
  same_reader c d same = record { table = same.0; terms = same.1; number = same.2 }

  saw_more : (c d : SeatOf) → IsSameCaller c d × (d.own ≡ c.own) → turns.Extends d.seen c.seen → SawMore (reader_of number c) (reader_of number d)
  saw_more c d same later = record {
    same = same_reader c d same.0;
    later = extends_entries d.seen c.seen later;
    calls = ap (entries_of number) same.1;
  }

  -- a turn is one answered call
  answered : (gate : Gate CatalogSetting) (c d : SeatOf) (op : StampedOp B) (place : ℕ) (reply : StampedReply B) → IsSameCaller c d
      → ((old : Calls) × turns.Extends old c.seen × (d.seen ≡ turns.entry c.number op reply ∷ old) × (place ≡ length old))
      → d.own ≡ turns.entry c.number op reply ∷ c.own → AreGiven d.seen → IsInOrder gate.terms (reader_of number d)
      → Answered gate (reader_of number c) (reader_of number d) (op_of number op.op) op.least place reply.stamp (reply_of number reply.reply)
  answered gate c d op place reply same made own given order =
      let e : Entry = record { who = c.number; op = op_of number op.op; reply = reply_of number reply.reply; stamp = reply.stamp } in
      let new : AreGiven (turns.entry c.number op reply ∷ made.0) = subst (λ (H : Calls). AreGiven H) made.2 given in
      let before : History = entries_of number made.0 in
      let seen : entries_of number d.seen ≡ e ∷ before = ap (entries_of number) made.2 in
      let calls : entries_of number d.own ≡ e ∷ entries_of number c.own = ap (entries_of number) own in
      let good : IsLegal gate.terms.setting (e ∷ before) = subst (IsLegal gate.terms.setting) seen order.legal in
      let ours : e ∷ entries_by c.number before ≡ e ∷ entries_of number c.own =
      sym (own_if e before c.number true (eq-eqb c.number c.number refl))
      ∙ sym (ap (entries_by c.number) seen)
      ∙ ap (λ (n : ℕ). entries_by n (entries_of number d.seen)) (sym same.2)
      ∙ order.calls ∙ calls
      in
      record {
        same = same_reader c d same;
        before = before;
        later = extends_entries made.0 c.seen made.1;
        legal = good.1;
        others = ap without_newest ours;
        place_is = made.3 ∙ sym (length-map made.0 (entry_of number));
        reply_is = good.0;
        stamp_is = new.0 ∙ ap (λ (n : ℕ). max n op.least) (sym (last_entry made.0));
        seen = seen;
        calls = calls;
      }

-- ---- of the seat inside, and of the thread that the caller sees

known_terms : (gate self : Gate CatalogSetting) (inner outer : ReaderData) → gate ≡ self → inner ≡ outer → IsReaderOf self outer → inner.terms ≡ Some gate.terms
known_terms gate self inner outer gates readers of = ap (λ (r : ReaderData). r.terms) readers ∙ of.1 ∙ ap (λ (g : Gate CatalogSetting). Some g.terms) (sym gates)

-- what is orderly by the terms that are known
orderly_by : (terms : Terms CatalogSetting) (r : ReaderData) → r.terms ≡ Some terms → IsInOrder terms r → IsOrderly r
orderly_by terms r known is = λ others told. let same : Some terms ≡ Some others = sym known ∙ told in subst (λ (x : Terms CatalogSetting). IsInOrder x r) (cc same) is

-- a turn, by a thread of these catalogs
pub record Turned (self : Gate CatalogSetting) (old new : ReaderData) (op : Op) (least place stamp : ℕ) (reply : Reply) : Type 0 where
  pub answered : Answered self old new op least place stamp reply
  pub is : IsInOrder self.terms new
  pub orderly : IsOrderly new

-- a meet
pub record Met (self : Gate CatalogSetting) (old new : ReaderData) : Type 0 where
  pub saw : SawMore old new
  pub is : IsInOrder self.terms new
  pub orderly : IsOrderly new

module _ {B : Type 0} (number : B → ℕ) where
  pub turned : (gate self : Gate CatalogSetting) (c d : Caller CatalogSetting (StampedOp B) (StampedReply B)) (mine : ReaderData) (op : StampedOp B) (place : ℕ) (reply : StampedReply B)
      → gate ≡ self → reader_of number c ≡ mine → IsReaderOf self mine → IsSameCaller c d
      → ((old : turns.History (StampedOp B) (StampedReply B)) × turns.Extends old c.seen × (d.seen ≡ turns.entry c.number op reply ∷ old) × (place ≡ length old))
      → d.own ≡ turns.entry c.number op reply ∷ c.own → InOrder (legal_calls number) gate.terms d.number d.seen d.own
      → Turned self mine (reader_of number d) (op_of number op.op) op.least place reply.stamp (reply_of number reply.reply)
  turned gate self c d mine op place reply gates mines of same made own order =
      let is : IsInOrder gate.terms (reader_of number d) = in_order number gate.terms d order in
      let known : c.terms ≡ Some gate.terms = known_terms gate self (reader_of number c) mine gates mines of in
      record {
        answered = subst (λ (g : Gate CatalogSetting). Answered g mine (reader_of number d) (op_of number op.op) op.least place reply.stamp (reply_of number reply.reply)) gates
            (subst (λ (r : ReaderData). Answered gate r (reader_of number d) (op_of number op.op) op.least place reply.stamp (reply_of number reply.reply)) mines (answered number gate c d op place reply same made own order.legal_seen.1 is));
        is = subst (λ (g : Gate CatalogSetting). IsInOrder g.terms (reader_of number d)) gates is;
        orderly = orderly_by gate.terms (reader_of number d) (same.1 ∙ known) is;
      }

  pub met : (gate self : Gate CatalogSetting) (c d : Caller CatalogSetting (StampedOp B) (StampedReply B)) (mine : ReaderData) → gate ≡ self → reader_of number c ≡ mine → IsReaderOf self mine
      → IsSameCaller c d × (d.own ≡ c.own) → turns.Extends d.seen c.seen → InOrder (legal_calls number) gate.terms d.number d.seen d.own → Met self mine (reader_of number d)
  met gate self c d mine gates mines of same later order =
      let is : IsInOrder gate.terms (reader_of number d) = in_order number gate.terms d order in
      let known : c.terms ≡ Some gate.terms = known_terms gate self (reader_of number c) mine gates mines of in
      record {
        saw = subst (λ (r : ReaderData). SawMore r (reader_of number d)) mines (saw_more number c d same later);
        is = subst (λ (g : Gate CatalogSetting). IsInOrder g.terms (reader_of number d)) gates is;
        orderly = orderly_by gate.terms (reader_of number d) (same.0.1 ∙ known) is;
      }

-- ---- the first state

first_in_order : (terms : Terms CatalogSetting) (r : ReaderData) → r.seen ≡ [] → r.calls ≡ [] → r.number < terms.seats → IsInOrder terms r
first_in_order terms r unseen none lt = record {
  legal = subst (IsLegal terms.setting) (sym unseen) tt;
  rising = subst (λ (H : History). IsRising H) (sym unseen) tt;
  callers = subst (AreThreads terms.seats) (sym unseen) tt;
  calls = ap (entries_by r.number) unseen ∙ sym none;
  in_reach = lt;
}

module _ {B : Type 0} (number : B → ℕ) where
  -- an unused seat is orderly
  pub unused_orderly : (seat : Caller CatalogSetting (StampedOp B) (StampedReply B)) → IsUnused seat → IsOrderly (reader_of number seat)
  unused_orderly seat u = λ terms known. first_in_order terms (reader_of number seat) (ap (entries_of number) u.unseen) (ap (entries_of number) u.no_calls) (u.in_reach terms known)

  unused_from : (gate : Gate CatalogSetting) (a n : ℕ) → a + n ≤ gate.terms.seats → All (λ (s : Caller CatalogSetting (StampedOp B) (StampedReply B)). IsUnused s) (map (first_caller gate) (range_with_len a n))
  unused_from gate a zero low = λ k d none. absurd (omega arith)
  unused_from gate a (suc n) low =
      let one : (x : Terms CatalogSetting) → Some gate.terms ≡ Some x → gate.terms ≡ x = λ x e. cc e in
      All-cons (λ (s : Caller CatalogSetting (StampedOp B) (StampedReply B)). IsUnused s) (first_caller gate a) (map (first_caller gate) (range_with_len (a + 1) n))
      (record {
        unseen = refl;
        no_calls = refl;
        in_reach = λ x e. subst (λ (T : Terms CatalogSetting). a < T.seats) (one x e) (omega arith);
      })
      (unused_from gate (a + 1) n (omega arith))

  pub all_unused : (gate : Gate CatalogSetting) (n : ℕ) (seats : List (Caller CatalogSetting (StampedOp B) (StampedReply B))) → n ≡ gate.terms.seats → seats ≡ map (first_caller gate) (range_with_len 0 n) → All IsUnused seats
  all_unused gate n seats same is = subst (All IsUnused) (sym is) (unused_from gate 0 n (omega arith))

  pub first_readers : (gate : Gate CatalogSetting) (n : ℕ) (seats : List (Caller CatalogSetting (StampedOp B) (StampedReply B))) → seats ≡ map (first_caller gate) (range_with_len 0 n)
      → map (reader_of number) seats ≡ map (first_reader gate) (range_with_len 0 n)
  first_readers gate n seats is = ap (map (reader_of number)) is ∙ map-map (reader_of number) (first_caller {O = StampedOp B} {R = StampedReply B} gate) (range_with_len 0 n)
