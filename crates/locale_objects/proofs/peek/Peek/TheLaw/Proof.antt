-- A `&` to a `Peek` borrows its share of the token, and so reaches the value. Assumes `Logic`.
use base.Fraction.{full_share}
use denote.RattleType.{RattleType}
use denote.Param.Laws.{Laws}
use denote.Param.Shared.{copy_shared}
use denote.Struct.Field.{RawPtr-field}
use denote.Struct.Laws.{RawPtr-copy}
use denote.Struct.Lending.{of_Lends, lent_at, lent_at_shr_laws}
use Rattle.lru.proofs.Sharing.{Lends-loan}
use Rattle.locale_objects.specs.Lending.{share_of}
use Rattle.locale_objects.specs.contracts.peek.Peek as C
use Rattle.locale_objects.proofs.peek.Peek.TheLaw.Statement.{statement}

pub shares : (K : RattleType) (L : Laws K) → statement K L
shares K L = of_Lends (C.struct K) (C.the_codes K.Denot K.coded) (C.the_heap K) (C.the_lent K)
    (λ d p. lent_at_shr_laws K L.shr_laws d.at d.value) (copy_shared RawPtr-field RawPtr-copy, tt)
    (λ M 𝓤 𝓛 d p. Lends-loan 𝓛 (lent_at K d.at d.value) (lent_at_shr_laws K L.shr_laws d.at d.value) d.life (share_of d.part full_share) (C.the_row K).lives)
