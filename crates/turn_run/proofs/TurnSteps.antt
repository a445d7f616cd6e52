-- One rank goes on while the others stand.
use Rattle.turn_run.proofs.Words.{◌≡◌, ℕ, zero, suc, ◌+◌, ◌<◌, ◌≤◌, ◌≢◌, refl, sym, ◌∙◌, ap, List, [], ◌∷◌, ◌++◌, length, set, true, Option, Some, None, arith, cases_eq, nat_tests, slice_get, slice_index_or, list_all, slice_get_within, and_first, and_second, Header, Call, Script, DiskCall, Mark, Meet, Solo, Offer, OfferKind, is_of_rank_below, is_lawful, Going, setting_of, is_solo_of, meetings, ranks_lawful, way_others, others_meetings, HasBegun, IsCount, calls_of, going_of, AreRunners, IsPlaced, IsPlacedWith, IsRunner, arrived, arrived_all, stage, HasGone, HasLed, IsGrownBy, rank_stage, Runner, entry_below, entry_set, entry_set_other, length-set, common_steps}
use Rattle.nc_base.specs.declared.step.OfferKind.TheVariants as offer
use Rattle.turn_run.proofs.CountLaws.{count_longer}
use Rattle.turn_run.proofs.RunnerLaws.{placed_rest, HasRest}
use Rattle.turn_run.proofs.StageLaws.{gone_beside}

-- ---- solo steps that are added to an order

solos_known : (ranks n : ℕ) (more : List Mark) → n < ranks → list_all (is_solo_of n) more ≡ true → list_all (is_of_rank_below ranks) more ≡ true
solos_known ranks n [] l h = refl
solos_known ranks n (m ∷ more) l h = grind (arith, nat_tests, and_first, solos_known ranks n more l, and_second, list_all, is_of_rank_below)

pub grown_meetings : (n : ℕ) (before now : List Mark) → IsGrownBy n before now → meetings now ≡ meetings before
grown_meetings n before now g = grind (arith, common_steps, others_meetings n g.more g.own)

-- ---- where the others are placed

placed_with_more : (script : Script) (header : Header) (order more : List Mark) (r q : ℕ) (s : Going) (o : Offer) (kind : OfferKind) → q ≢ r
    → list_all (is_solo_of q) more ≡ true → IsPlacedWith script header order r (s, o) kind → IsPlacedWith script header (order ++ more) r (s, o) kind
placed_with_more script header order more r q s o offer.Solo n h w = record {
  before = w.before;
  call = w.call;
  way = way_others script order more r q _ None n h w.way;
  step = w.step;
  few = w.few;
}
placed_with_more script header order more r q s o (offer.Meet kind) n h w = way_others script order more r q s (Some o) n h w

pub placed_more : (script : Script) (header : Header) (order more : List Mark) (r q : ℕ) (s : Going) (held : Option Offer) → q ≢ r
    → list_all (is_solo_of q) more ≡ true → IsPlaced script header order r s held → IsPlaced script header (order ++ more) r s held
placed_more script header order more r q s None n h w = way_others script order more r q s None n h w
placed_more script header order more r q s (Some o) n h w = placed_with_more script header order more r q s o o.kind n h w

runner_beside : (script : Script) (header : Header) (before now : List Mark) (r q : ℕ) (runner : Runner) → q ≢ r → IsGrownBy q before now
    → IsRunner script header before r runner → IsRunner script header now r runner
runner_beside script header before now r q runner n g h =
    grind (arith, nat_tests, placed_more script header before g.more r q (going_of (calls_of script r) runner) runner.held n g.own h.placed)

-- ---- all ranks

pub below_other : (q n : ℕ) → n ≢ q → q < n + 1 → q < n
below_other q n f l = omega arith

pub get_at : {X : Type 0} (xs : List X) (n : ℕ) (d : X) → n < length xs → slice_get xs n ≡ Some (slice_index_or xs n d)
get_at (x ∷ xs) zero d l = refl
get_at (x ∷ xs) (suc n) d l = get_at xs n d (omega arith)
get_at xs n d l = absurd (omega arith)

-- what holds of the new element and held of the others holds of all
pub set_each : {X : Type 0} (P : ℕ → X → Type 0) (xs : List X) (n : ℕ) (was x : X) → slice_get xs n ≡ Some was → P n x
    → ((r : ℕ) (y : X) → n ≢ r → slice_get xs r ≡ Some y → P r y) → (r : ℕ) (y : X) → slice_get (set xs n x) r ≡ Some y → P r y
set_each P xs n was x e own others r y f = grind (arith, nat_tests, cases_eq n r, entry_set, entry_set_other)

pub runners_step : (script : Script) (header : Header) (len later : ℕ) (before now : List Mark) (runners : List Runner) (n : ℕ) (was runner : Runner)
    → AreRunners script header len before runners → slice_get runners n ≡ Some was → IsGrownBy n before now → len ≤ later
    → IsRunner script header now n runner → IsCount header later runner.rank.state.known → AreRunners script header later now (set runners n runner)
runners_step script header len later before now runners n was runner a e g l own count = record {
  all = length-set runners n runner ∙ a.all;
  known_ranks =
      let k = slice_get_within runners n was e in let all = a.all in grind (arith, common_steps, solos_known script.ranks n g.more (omega arith) g.own, a.known_ranks, g.grown);
  each = set_each _ _ _ _ _ e own (λ r s other f. runner_beside _ _ _ _ _ _ _ other g (a.each r s f));
  known = set_each _ _ _ _ _ e count (λ r s other f. count_longer _ _ _ _ l (a.known r s f));
}

-- ---- beginnings of the marks

pub runners_begun : (script : Script) (header : Header) (len : ℕ) (order : List Mark) (runners : List Runner) → AreRunners script header len order runners → HasBegun script order
runners_begun script header len order runners a = record {
  known_ranks = a.known_ranks;
  each_rank = λ r l.
      let s = entry_below runners r (omega arith) in let h = a.each r s.0 s.1 in
      placed_rest script header order r (going_of (calls_of script r) s.0) s.0.held h.placed;
}

-- also where the rank that went on was cut off
pub step_begun : (script : Script) (header : Header) (len : ℕ) (before now : List Mark) (runners : List Runner) (n : ℕ) → AreRunners script header len before runners
    → n < script.ranks → IsGrownBy n before now → HasRest script now n → HasBegun script now
step_begun script header len before now runners n a l g own = record {
  known_ranks = grind (arith, common_steps, solos_known script.ranks n g.more l g.own, a.known_ranks, g.grown);
  each_rank = λ r m. let s = entry_below runners r (omega arith) in
      grind (arith, nat_tests, cases_eq n r, own, runner_beside script header before now r n s.0, a.each r s.0 s.1, placed_rest script header now r (going_of (calls_of script r) s.0) s.0.held);
}

-- ---- the stage after it

pub get_arrived : (header : Header) (calls : List (List Call)) (runners : List Runner) (r : ℕ) (own : List Call) (runner : Runner) → slice_get calls r ≡ Some own
    → slice_get runners r ≡ Some runner → slice_get (arrived_all header calls runners) r ≡ Some (arrived header own runner)
get_arrived header (c ∷ calls) (s ∷ runners) r own runner e f = grind (arith, nat_tests, get_arrived header calls runners)
get_arrived header calls runners r own runner e f = absurd cc

pub set_arrived : (header : Header) (calls : List (List Call)) (runners : List Runner) (r : ℕ) (own : List Call) (runner : Runner) → slice_get calls r ≡ Some own
    → arrived_all header calls (set runners r runner) ≡ set (arrived_all header calls runners) r (arrived header own runner)
set_arrived header (c ∷ calls) (s ∷ runners) r own runner e = grind (arith, nat_tests, set_arrived header calls runners)
set_arrived header calls runners r own runner e = cc

pub calls_there : (script : Script) (r : ℕ) → r < length script.calls → slice_get script.calls r ≡ Some (calls_of script r)
calls_there script r l = let h = entry_below script.calls r l in h.1 ∙ ap (λ (own : Option (List Call)). Some (elim own [ None ↦ [] | Some cs ↦ cs ])) (sym h.1)

pub arrived_at : (script : Script) (header : Header) (runners : List Runner) (r : ℕ) (runner : Runner) → length script.calls ≡ length runners → slice_get runners r ≡ Some runner
    → slice_get (arrived_all header script.calls runners) r ≡ Some (arrived header (calls_of script r) runner)
arrived_at script header runners r runner long there =
    let l = slice_get_within runners r runner there in get_arrived header script.calls runners r (calls_of script r) runner (calls_there script r (omega arith)) there

pub gone_led : (script : Script) (header : Header) (runners : List Runner) (n : ℕ) (was runner : Runner) (before now : List Mark) (held left : Option (List ℕ))
    (calls made : Option (List DiskCall)) → is_lawful script ≡ true → n < script.ranks → slice_get runners n ≡ Some was
    → HasGone script.hints (setting_of script header) n (rank_stage before held calls (arrived header (calls_of script n) was)) (rank_stage now left made (arrived header (calls_of script n) runner))
    → (records : ℕ) → HasLed script.hints (setting_of script header) before now
    (stage held calls records (arrived_all header script.calls runners)) (stage left made records (arrived_all header script.calls (set runners n runner)))
gone_led script header runners n was runner before now held left calls made lawful l e g records =
    let one = (ranks_lawful script lawful).one_each in
    grind (arith, nat_tests, calls_there script n, set_arrived header script.calls runners n (calls_of script n) runner, gone_beside g records (arrived_all header script.calls runners), get_arrived header script.calls runners n (calls_of script n) was, script.hints, stage, arrived_all, calls_of)
