-- The numbers of the calls that make a rank's meetings, as it goes on.
use Rattle.whole_run_laws.proofs.Words.{◌≡◌, ℕ, zero, suc, ◌+◌, ap, List, [], ◌∷◌, length, Bool, true, false, Option, Some, None, arith, length-append, same_Some, Answer, Header, Call, MeetKind, Offer, is_collective, kind_of_meeting, Rank, step, go, advance, Going, step_says, meeting_call, nat_tests}
use Rattle.nc_base.specs.declared.step.OfferKind.TheVariants as offer

-- of a rank that met k times, made n of its own calls, and has these calls left
abbrev pub IsNumbered : ℕ → List Call → ℕ → List Call → Type 0
IsNumbered k own n calls = (j : ℕ) → meeting_call (k + j) own ≡ n + meeting_call j calls

call_alone : (c : Call) (calls : List Call) (k : ℕ) → is_collective c ≡ false → meeting_call k (c ∷ calls) ≡ meeting_call k calls + 1
call_alone c calls k e = ap (λ (t : Bool). elim t as (λ z. ℕ) [ true ↦ elim k as (λ z. ℕ) [ zero ↦ 0 | suc j ↦ meeting_call j calls + 1 ] | false ↦ meeting_call k calls + 1 ]) e

-- how the numbers of the calls go on with the answers
abbrev PlacesBy : ℕ → List Call → Going → Option MeetKind → Type 0
PlacesBy n calls g None = (j : ℕ) → n + meeting_call j calls ≡ suc (length g.answers) + meeting_call j g.calls
PlacesBy n calls g (Some kind) =
    (n + meeting_call 0 calls ≡ length g.answers) × ((j : ℕ) → n + meeting_call (suc j) calls ≡ suc (length g.answers) + meeting_call j g.calls)

abbrev Places : ℕ → List Call → Going × Option Offer → Type 0
Places n calls (g, None) = Unit {0}
Places n calls (g, Some o) = PlacesBy n calls g (kind_of_meeting o.kind)

go_places : (header : Header) (calls : List Call) (r : Rank) (answers : List Answer) → Places (length answers) calls (go header r answers calls)
go_places header [] r answers = tt
go_places header (c ∷ calls) r answers =
    grind (arith, nat_tests, step, step_says, go_places header calls, call_alone, length-append answers, Places, PlacesBy)

module _ (header : Header) (g : Going) where
  pub number_met : (kind : MeetKind) (o : Offer) → (advance header g).1 ≡ Some o → o.kind ≡ offer.Meet kind → PlacesBy (length g.answers) g.calls (advance header g).0 (Some kind)
  number_met kind o e f = grind (arith, nat_tests, go_places header g.calls g.rank g.answers, same_Some)

  pub number_alone : (o : Offer) → (advance header g).1 ≡ Some o → o.kind ≡ offer.Solo → PlacesBy (length g.answers) g.calls (advance header g).0 None
  number_alone o e f = grind (arith, nat_tests, go_places header g.calls g.rank g.answers, same_Some)
