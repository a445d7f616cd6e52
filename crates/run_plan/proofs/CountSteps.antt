-- Record counts after a step that is planned.
use Rattle.run_plan.proofs.Words.{◌≡◌, ℕ, ◌≤◌, inl, refl, max, true, Option, Some, None, arith, Pair, Post, end_for, needs, told, Setting, needed_now, Puts, is_sound, ArePuts, IsCount, IsRise, count_longer, count_max, rise_longer, rise_max, needed_rise}

-- what puts need is a count that the file then can have
pub now_rise : (s : Setting) (puts : Puts) (size : ℕ) → is_sound s.header ≡ true → ArePuts s.header puts → IsRise s.header (max size (end_for s (needed_now s puts))) (needed_now s puts)
now_rise s puts size sound are = by_pair (told s puts) (omega arith)
  where
    by_pair : (o : Option Pair) → end_for s (needs s puts o) ≤ max size (end_for s (needed_now s puts)) → IsRise s.header (max size (end_for s (needed_now s puts))) (needs s puts o)
    by_pair (Some pair) l = inl refl
    by_pair None l = needed_rise s.header (max size (end_for s (needed_now s puts))) (λ (p : ℕ × Post). p.1) puts sound are l

pub solo_counted : (s : Setting) (puts : Puts) (size later known : ℕ) → is_sound s.header ≡ true → ArePuts s.header puts → IsCount s.header size known
    → later ≡ max size (end_for s (needed_now s puts)) → IsCount s.header later (max known (needed_now s puts))
solo_counted s puts size later known sound are count is =
    rw is (count_max s.header (max size (end_for s (needed_now s puts))) known (needed_now s puts)
    (count_longer s.header size (max size (end_for s (needed_now s puts))) known (omega arith) count) (now_rise s puts size sound are))

pub met_counted : (s : Setting) (puts : Puts) (size later r known n : ℕ) → is_sound s.header ≡ true → ArePuts s.header puts → IsCount s.header size r → IsRise s.header size known
    → later ≡ max size (end_for s (needed_now s puts)) → n ≡ max r (max (needed_now s puts) known) → IsCount s.header later n
met_counted s puts size later r known n sound are count rise is counts =
    let end = max size (end_for s (needed_now s puts)) in
    rw (is, counts) (count_max s.header end r (max (needed_now s puts) known) (count_longer s.header size end r (omega arith) count)
    (rise_max s.header end (needed_now s puts) known (now_rise s puts size sound are) (rise_longer s.header size end known (omega arith) rise)))

-- a step makes no file shorter
pub grown : (size later end : ℕ) → later ≡ max size end → size ≤ later
grown size later end is = omega arith
