-- What a rank put and took, from one offer to the next.
use Rattle.thread_run.proofs.Words.{◌≡◌, ℕ, refl, List, [], ◌∷◌, ◌++◌, length, Bool, true, false, Option, Some, None, Ok, Err, Result, append_assoc, length-append, is_err, append-nil, filter-append, list_all-append, Answer, Header, Memory, Call, RankStop, Offer, OwnerItem, RankItem, offers_in, fits_offer, waiting, waiting_end, waiting_stop, Going, advance, first_going, hears, HasAttended, HasStood, IsAccounted, IsBroken, runner_end, asking, between, going_of, Runner, going_free, going_held, answers_begin, waiting_misfit, waiting_reply, waiting_end_misfit, waiting_end_reply, waiting_stop_misfit, waiting_stop_reply, arith, nat_tests}
use Rattle.nc_base.specs.declared.run.RankStop.TheVariants as stop
use Rattle.nc_base.specs.declared.step.OwnerItem.TheVariants as owner_item
use Rattle.nc_base.specs.declared.step.RankItem.TheVariants as item
use Rattle.nc_base.specs.declared.step.Reply.{Reply}

-- ---- accounts

pub accounted_first : (header : Header) (own : List Call) (at : Going × Option Offer) → advance header (first_going header own) ≡ at → IsAccounted header own [] [] at
accounted_first header own at e = grind (arith, nat_tests)

pub accounted_held : (header : Header) (own : List Call) (put : List RankItem) (taken : List OwnerItem) (runner : Runner) (o : Offer) → runner.held ≡ Some o
    → IsAccounted header own put taken (going_of own runner, runner.held) → IsAccounted header own put taken (asking own runner, Some o)
accounted_held header own put taken runner o e h = grind (arith, nat_tests, going_held)

pub accounted_free : (header : Header) (own : List Call) (put : List RankItem) (taken : List OwnerItem) (runner : Runner) → runner.held ≡ None
    → IsAccounted header own put taken (going_of own runner, runner.held) → IsAccounted header own put taken (between own runner, None)
accounted_free header own put taken runner e h = grind (arith, nat_tests, going_free)

-- one offer and one item more
one_more : (put : List RankItem) (taken : List OwnerItem) (n : ℕ) (o : Offer) (x : OwnerItem) → length taken ≡ offers_in put
    → length (taken ++ x ∷ []) ≡ offers_in (put ++ item.Offer n o ∷ [])
one_more put taken n o x h = grind (arith, nat_tests, length-append, filter-append)

pub accounted_on : (header : Header) (own : List Call) (put : List RankItem) (taken : List OwnerItem) (g : Going) (o : Offer) (y : Reply) (to : Going × Option Offer)
    → IsAccounted header own put taken (g, Some o) → fits_offer header o y ≡ true → advance header (hears header g y) ≡ to
    → IsAccounted header own (put ++ item.Offer (length g.answers) o ∷ []) (taken ++ owner_item.Reply y ∷ []) to
accounted_on header own put taken g o y to h fits e =
    grind (arith, nat_tests, append_assoc, waiting_reply, waiting_end_reply, waiting_stop_reply, one_more, list_all-append)

-- ---- the end of the calls

-- it has made its calls
pub stood_done : (header : Header) (own : List Call) (put : List RankItem) (taken : List OwnerItem) (g : Going) (runner : Runner) → IsAccounted header own put taken (g, None)
    → runner.answers ≡ g.answers → runner.rank.state ≡ g.rank → HasStood header own put taken runner (Ok stop.Done)
stood_done header own put taken g runner h e f = grind (arith, nat_tests, append-nil taken)

-- it took an item after which it goes on no more
stood_left : (header : Header) (own : List Call) (put : List RankItem) (taken : List OwnerItem) (g : Going) (o : Offer) (x : OwnerItem) (end : RankStop) (runner : Runner)
    → IsAccounted header own put taken (g, Some o) → (end ≡ stop.Memory → ⊥) → waiting header g o (x ∷ []) ≡ item.Ended false ∷ [] → waiting_end header g o (x ∷ []) ≡ g
    → waiting_stop header g o (x ∷ []) ≡ Some end → runner.answers ≡ g.answers → runner.rank.state ≡ g.rank
    → HasStood header own (put ++ item.Offer (length g.answers) o ∷ []) (taken ++ x ∷ []) runner (Ok end)
stood_left header own put taken g o x end runner h not_broken last ended stopped e f = grind (arith, nat_tests, one_more, append_assoc)

pub stood_stopped : (header : Header) (own : List Call) (put : List RankItem) (taken : List OwnerItem) (g : Going) (o : Offer) (runner : Runner)
    → IsAccounted header own put taken (g, Some o) → runner.answers ≡ g.answers → runner.rank.state ≡ g.rank
    → HasStood header own (put ++ item.Offer (length g.answers) o ∷ []) (taken ++ owner_item.Stop ∷ []) runner (Ok stop.Stopped)
stood_stopped header own put taken g o runner h e f = stood_left header own put taken g o owner_item.Stop stop.Stopped runner h (λ k. cc) refl refl refl e f

pub stood_misfit : (header : Header) (own : List Call) (put : List RankItem) (taken : List OwnerItem) (g : Going) (o : Offer) (y : Reply) (runner : Runner)
    → IsAccounted header own put taken (g, Some o) → fits_offer header o y ≡ false → runner.answers ≡ g.answers → runner.rank.state ≡ g.rank
    → HasStood header own (put ++ item.Offer (length g.answers) o ∷ []) (taken ++ owner_item.Reply y ∷ []) runner (Ok stop.Misfit)
stood_misfit header own put taken g o y runner h fits e f =
    stood_left header own put taken g o (owner_item.Reply y) stop.Misfit runner h (λ k. cc) (waiting_misfit header g o y [] fits) (waiting_end_misfit header g o y [] fits) (waiting_stop_misfit header g o y [] fits) e f

-- ---- want of memory

broken : (header : Header) (own : List Call) (put : List RankItem) (taken : List OwnerItem) (runner : Runner) (result : Result RankStop Memory) → is_err result ≡ true
    → length taken ≡ offers_in put → IsBroken header own put taken runner.answers → HasStood header own put taken runner result
broken header own put taken runner result e one h = grind (arith, nat_tests)

pub broken_first : (header : Header) (own : List Call) (runner : Runner) (result : Result RankStop Memory) → is_err result ≡ true
    → (rest : List Answer) × (runner.answers ++ rest ≡ (advance header (first_going header own)).0.answers) → HasStood header own [] [] runner result
broken_first header own runner result e (rest, h) = grind (arith, nat_tests, broken)

-- after a reply that fits
pub broken_at : (header : Header) (own : List Call) (put : List RankItem) (taken : List OwnerItem) (g : Going) (o : Offer) (y : Reply) (runner : Runner) (result : Result RankStop Memory)
    → IsAccounted header own put taken (g, Some o) → fits_offer header o y ≡ true → is_err result ≡ true
    → (rest : List Answer) × (runner.answers ++ rest ≡ (advance header (hears header g y)).0.answers)
    → HasStood header own (put ++ item.Offer (length g.answers) o ∷ []) (taken ++ owner_item.Reply y ∷ []) runner result
broken_at header own put taken g o y runner result h fits e (rest, k) =
    grind (arith, nat_tests, accounted_on header own put taken g o y (advance header (hears header g y)) h fits refl, append-nil (taken ++ owner_item.Reply y ∷ []), broken)

-- what it heard is not among its answers yet
pub unheard_begins : (header : Header) (g : Going) (y : Reply) (answers : List Answer) → answers ≡ g.answers
    → (rest : List Answer) × (answers ++ rest ≡ (advance header (hears header g y)).0.answers)
unheard_begins header g y answers e =
    grind (arith, nat_tests, answers_begin header (hears header g y).rank (hears header g y).answers (hears header g y).calls, append_assoc)

-- ---- the last item

no_offer : (put : List RankItem) (taken : List OwnerItem) (memory : Bool) → length taken ≡ offers_in put → length taken ≡ offers_in (put ++ item.Ended memory ∷ [])
no_offer put taken memory h = grind (arith, nat_tests, filter-append, append-nil)

pub attended_through : (header : Header) (own : List Call) (put : List RankItem) (taken : List OwnerItem) (runner : Runner) (end : RankStop)
    → HasStood header own put taken runner (Ok end) → HasAttended header own (put ++ item.Ended false ∷ []) taken (runner_end end runner)
attended_through header own put taken runner end h = grind (arith, nat_tests, no_offer, broken)

pub attended_broken : (header : Header) (own : List Call) (put : List RankItem) (taken : List OwnerItem) (runner : Runner) (m : Memory)
    → HasStood header own put taken runner (Err m) → HasAttended header own (put ++ item.Ended true ∷ []) taken (runner_end stop.Memory runner)
attended_broken header own put taken runner m h = grind (arith, nat_tests, no_offer, broken)
