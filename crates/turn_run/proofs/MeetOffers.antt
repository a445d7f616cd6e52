-- The offers of a meeting, as the runners hold them: together they are a job that a meeting takes.
use Rattle.turn_run.proofs.Words.{nat_tests, ◌≡◌, ℕ, zero, suc, ◌+◌, ◌≤◌, refl, sym, ap, subst, List, [], ◌∷◌, ◌++◌, length, map, true, false, Option, Some, inl, inr, arith, map-append, length-map, slice_get, flat_map, is_some, enumerate_from, AllByRecursion, option_to_list, Header, Batch, Post, Script, Mark, Offer, OfferKind, In, known_by, is_lawful, bytes_of, holdings, Holding, IsOwnOnce, Puts, IsOnWay, ranks_lawful, together_kind, gets_in, posts_in, puts_of_batch, AreGets, ArePuts, raises, IsAsked, IsCount, IsFit, IsRise, asking, calls_of, AreRunners, HaveArrived, HaveMet, batches_of, held_offers, known_of, IsJob, IsOneRise, Runner, IsSingleOffer, value_of_some, if_some_at, mapped_entry}
use Rattle.nc_base.specs.declared.step.MeetKind.TheVariants as kind
use Rattle.nc_base.specs.declared.step.OfferKind.TheVariants as offer
use Rattle.turn_run.proofs.CountLaws.{rise_max}
use Rattle.turn_run.proofs.MeetPosts.{get_of, put_of}
use Rattle.turn_run.proofs.TurnEnds.{comes, holding}
use Rattle.overlay_laws.proofs.Common.{each_in, flat_in, map_in}
use Rattle.overlay_laws.proofs.Members.{numbered_from}
use Rattle.rank_core.proofs.OwnLaws.{held_at as holding_at, held_by, own_append, own_none}
use Rattle.serial_spec.proofs.Common.{at_in}

-- ---- the offers that runners hold

abbrev pub AllHold : List Runner → Type 0
AllHold runners = (r : ℕ) (runner : Runner) → slice_get runners r ≡ Some runner → is_some runner.held ≡ true

pub held_first : (runner : Runner) (runners : List Runner) (o : Offer) → runner.held ≡ Some o → held_offers (runner ∷ runners) ≡ o ∷ held_offers runners
held_first runner runners o e = ap (λ (m : Option Offer). option_to_list m ++ held_offers runners) e

pub held_at : (runners : List Runner) → AllHold runners → (r : ℕ) (runner : Runner) (o : Offer) → slice_get runners r ≡ Some runner → runner.held ≡ Some o → slice_get (held_offers runners) r ≡ Some o
held_at [] m r runner o e h = absurd cc
held_at (x ∷ runners) m zero runner o e h = grind (arith, nat_tests, value_of_some, held_first, held_offers)
held_at (x ∷ runners) m (suc r) runner o e h =
    grind (arith, nat_tests, value_of_some x.held (m 0 x refl), held_first x runners, held_at runners (λ q s g. m (suc q) s g) r runner o e h)

pub held_long : (runners : List Runner) → AllHold runners → length (held_offers runners) ≡ length runners
held_long [] m = refl
held_long (x ∷ runners) m = grind (arith, nat_tests, value_of_some x.held (m 0 x refl), held_first x runners, held_long runners (λ q s g. m (suc q) s g))

held_all : (P : Offer → Type 0) (runners : List Runner) → ((r : ℕ) (runner : Runner) → slice_get runners r ≡ Some runner → (o : Offer) × ((runner.held ≡ Some o) × P o))
    → AllByRecursion P (held_offers runners)
held_all P [] f = tt
held_all P (x ∷ runners) f =
    let p = f 0 x refl in
    subst (λ (os : List Offer). AllByRecursion P os) (sym (held_first x runners p.0 p.1.0)) (p.1.1, held_all P runners (λ q s g. f (suc q) s g))

-- ---- a runner in a meeting

pub record Meets (script : Script) (header : Header) (len : ℕ) (order : List Mark) (r : ℕ) (runner : Runner) (o : Offer) : Type 0 where
  pub held : runner.held ≡ Some o
  pub way : IsOnWay script order r (asking (calls_of script r) runner) (Some o)
  pub asked : IsAsked header runner.rank.state.known o
  pub known : IsCount header len runner.rank.state.known
  pub of_header : runner.rank.header ≡ header

pub meets_at : {script : Script} {header : Header} {len : ℕ} {order : List Mark} {runners : List Runner} → AreRunners script header len order runners → HaveMet runners → HaveArrived script runners
    → (r : ℕ) (runner : Runner) → slice_get runners r ≡ Some runner → (o : Offer) × Meets script header len order r runner o
meets_at {script} {header} {len} {order} {runners} all met come r runner e =
    let s = all.each r runner e in let o = value_of_some runner.held (met r runner e) in (
      o.0,
      record {
        held = o.1;
        way = holding script order r runner o.0 o.1 (comes script header len order runners all come r runner e);
        asked = if_some_at (IsAsked header runner.rank.state.known) runner.held o.0 o.1 s.asked;
        known = all.known r runner e;
        of_header = s.of_header;
      },
    )

-- ---- what an offer brings to the meeting

pub asked_fit : (header : Header) (len known : ℕ) (o : Offer) → IsAsked header known o → IsCount header len known → IsFit header len o
asked_fit header len known o asked count = grind (arith, nat_tests)

-- the puts of ranks from one on
abbrev puts_from : ℕ → List Offer → Puts
puts_from first offers = flat_map puts_of_batch (enumerate_from first (batches_of offers))

-- each is one of an offer
put_from : (first : ℕ) (offers : List Offer) (p : ℕ × Post) → In (puts_from first offers) p → (o : Offer) × In offers o × In o.batch.puts p.1 × (first ≤ p.0)
put_from first offers p m =
    let b = flat_in puts_of_batch (enumerate_from first (batches_of offers)) p m in let n = numbered_from first (batches_of offers) b.0 b.1 in
    grind (arith, nat_tests, map_in, at_in (batches_of offers) n.0 b.0.1 n.2, b.0.0, b.0.1.puts, b.2, n.1, batches_of)

puts_brought : (header : Header) (len first : ℕ) (offers : List Offer) → AllByRecursion (IsFit header len) offers → ArePuts header (puts_from first offers)
puts_brought header len first offers all p m = let o = put_from first offers p m in put_of header o.0 (each_in (IsFit header len) offers o.0 all o.1).sound p.1 o.2

gets_brought : (header : Header) (len : ℕ) (offers : List Offer) → AllByRecursion (IsFit header len) offers → AreGets header len (gets_in (batches_of offers))
gets_brought header len offers all p m = grind (arith, nat_tests, flat_in, map_in, each_in (IsFit header len) offers, get_of header len)

-- ---- no request holds a byte twice

own_brought : (header : Header) (len first : ℕ) (offers : List Offer) → AllByRecursion (IsFit header len) offers → IsOwnOnce (holdings header (puts_from first offers))
own_brought header len first [] all = own_none
own_brought header len first (o ∷ offers) all =
    let later = puts_from (first + 1) offers in let holds : ℕ × Post → Holding = λ p. ((p.0, p.1.id), bytes_of header p.1) in
    subst IsOwnOnce (sym (map-append holds (map (λ post. (first, post)) o.batch.puts) later))
    (own_append (held_by header first o.batch.puts) (holdings header later) (all.0.sound.own first) (own_brought header len (first + 1) offers all.1) (λ i j g h a b keys.
    let p = holding_at header first o.batch.puts i g a in let q = mapped_entry holds later j h b in
    grind (arith, nat_tests, put_from (first + 1) offers q.0 (at_in later j q.0 q.1.0), at_in later j q.0 q.1.0, p.2, q.1.1)))

-- ---- what the ranks know

known_rise : (header : Header) (len : ℕ) (k : OfferKind) (n : ℕ) → IsCount header len n → IsRise header len (known_by k n)
known_rise header len (offer.Meet kind.End) n h = inr h
known_rise header len (offer.Meet kind.Sync) n h = inr h
known_rise header len k n h = inl refl

pub rise_brought : (header : Header) (len : ℕ) (offers : List Offer) → AllByRecursion (IsFit header len) offers → IsRise header len (known_of offers)
rise_brought header len [] all = inl refl
rise_brought header len (o ∷ offers) all =
    rise_max header len (known_by o.kind o.known) (known_of offers) (known_rise header len o.kind o.known all.0.known) (rise_brought header len offers all.1)

none_known : (kind : OfferKind) (offers : List Offer) → AllByRecursion (λ o. o.kind ≡ kind) offers → raises kind ≡ false → known_of offers ≡ 0
none_known kind [] all e = refl
none_known kind (o ∷ offers) all e = grind (arith, nat_tests, raises, known_by, all.0, none_known kind offers all.1 e)

none_put : (first : ℕ) (kind : OfferKind) (offers : List Offer) → AllByRecursion IsSingleOffer offers → AllByRecursion (λ o. o.kind ≡ kind) offers
    → raises kind ≡ true → puts_from first offers ≡ []
none_put first kind [] all same e = refl
none_put first kind (o ∷ offers) all same e = grind (arith, nat_tests, none_put (first + 1) kind offers all.1 same.1 e)

pub one_rise : (kind : OfferKind) (offers : List Offer) → AllByRecursion IsSingleOffer offers → AllByRecursion (λ o. o.kind ≡ kind) offers
    → IsOneRise (known_of offers) (batches_of offers)
one_rise kind offers all same = grind (arith, nat_tests, none_put, none_known, known_of, batches_of)

-- offers that are fit, of no more ranks than there can be, are a job
pub offers_job : (header : Header) (len : ℕ) (offers : List Offer) → length offers ≤ 64 → AllByRecursion (IsFit header len) offers → IsJob header len (batches_of offers)
offers_job header len offers most own =
    let few : length (batches_of offers) ≤ 64 = omega (arith, length-map offers (λ (o : Offer). o.batch)) in
    grind (arith, nat_tests, map_in, each_in, posts_in, puts_brought, own_brought, gets_brought)

-- ---- the job

all_brought : {script : Script} {header : Header} {len : ℕ} {order : List Mark} {runners : List Runner} → AreRunners script header len order runners → HaveMet runners → HaveArrived script runners
    → AllByRecursion (IsFit header len) (held_offers runners)
all_brought {header} {len} {runners} all met come =
    held_all (IsFit header len) runners (λ r runner e. let m = meets_at all met come r runner e in (m.0, (m.1.held, asked_fit header len runner.rank.state.known m.0 m.1.asked m.1.known)))

one_kind : {script : Script} {header : Header} {len : ℕ} {order : List Mark} {runners : List Runner} → AreRunners script header len order runners → HaveMet runners → HaveArrived script runners
    → (kind : OfferKind) × AllByRecursion (λ o. o.kind ≡ kind) (held_offers runners)
one_kind {runners = []} all met come = (offer.Solo, tt)
one_kind {script} {header} {len} {order} {runners = x ∷ xs} all met come =
    let first = meets_at all met come 0 x refl in (
      first.0.kind,
      held_all (λ o. o.kind ≡ first.0.kind) (x ∷ xs) (λ r runner f.
          let m = meets_at all met come r runner f in
          (m.0, (m.1.held, together_kind script order 0 r (asking (calls_of script 0) x) (asking (calls_of script r) runner) first.0 m.0 first.1.way m.1.way))),
    )

pub meets_job : {script : Script} {header : Header} {len : ℕ} {order : List Mark} {runners : List Runner} {batches : List Batch} → is_lawful script ≡ true
    → AreRunners script header len order runners → HaveMet runners → HaveArrived script runners → batches ≡ batches_of (held_offers runners) → IsJob header len batches
meets_job {script} {header} {len} {runners} lawful all met come f =
    grind (arith, nat_tests, ranks_lawful script lawful, held_long runners met, offers_job header len (held_offers runners), all_brought all met come)

pub meets_once : {script : Script} {header : Header} {len : ℕ} {order : List Mark} {runners : List Runner} {known : ℕ} {batches : List Batch} → AreRunners script header len order runners → HaveMet runners
    → HaveArrived script runners → known ≡ known_of (held_offers runners) → batches ≡ batches_of (held_offers runners) → IsOneRise known batches
meets_once {runners} all met come e f =
    let same = one_kind all met come in
    let alone = held_all IsSingleOffer runners (λ r runner g. let m = meets_at all met come r runner g in (m.0, (m.1.held, m.1.asked.one))) in
    rw (e, f) (one_rise same.0 (held_offers runners) alone same.1)

pub meets_rise : {script : Script} {header : Header} {len : ℕ} {order : List Mark} {runners : List Runner} {known : ℕ} → AreRunners script header len order runners → HaveMet runners → HaveArrived script runners
    → known ≡ known_of (held_offers runners) → IsRise header len known
meets_rise {header} {len} {runners} all met come e = rw (e) (rise_brought header len (held_offers runners) (all_brought all met come))
