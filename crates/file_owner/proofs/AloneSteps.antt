-- A number's own step, as the disk, the order and the lines show it.
use Rattle.file_owner.proofs.Words.{◌≡◌, ℕ, ◌≤◌, [], ◌∷◌, ◌++◌, length, map, max, arith, IfSome, Hints, Solo, Offer, Reply, after, with_end, needed_now, to_one, solo_calls, Setting, puts_of, solo, told, wanted, counted, AreAlike, TellAlike, Grows, IsAlone, Standing, put_one, gots_long, if_some_at, nat_tests}
use Rattle.nc_base.specs.declared.step.Reply as reply

one_alike : (r : ℕ) (y z : reply.Reply) (q : ℕ) → TellAlike y z → AreAlike (put_one r (Reply y) q) (to_one r z q)
one_alike r y z q w = grind (arith, nat_tests)

-- what the step came to
pub record CameAlone (s : Setting) (hints : Hints) (r c : ℕ) (o : Offer) (b n : Standing) (y : reply.Reply) : Type 0 where
  pub known_low : o.known ≤ b.reached
  pub pair : y.pair ≡ told s (puts_of (r, o))
  pub records : y.records ≡ max o.known (needed_now s (puts_of (r, o)))
  pub fits : map (λ blob. length blob) y.got ≡ map (wanted s.header) o.batch.gets
  pub reply : IfSome b.told (λ file. y ≡ (solo s r o (counted file 0)).1)
  pub bytes : n.told ≡ after (λ file. (solo s r o (counted file 0)).0.file) b.told
  pub calls : IfSome b.told (λ file. n.calls ≡ with_end b.calls (solo_calls hints s r o (counted file 0)))
  pub order : n.order ≡ b.order ++ Solo r c ∷ []
  pub heard : n.heard ≡ with_end b.heard ((Solo r c, b.records) ∷ [])
  pub clients : n.clients ≡ b.clients
  pub same_met : n.met ≡ b.met
  pub same_records : n.records ≡ b.records
  pub reached : n.reached ≡ max b.reached y.records
  pub lines : Grows b.lines (put_one r (Reply y)) n.lines

pub alone : (s : Setting) (hints : Hints) (r c : ℕ) (o : Offer) (b n : Standing) (y : reply.Reply) → CameAlone s hints r c o b n y → IsAlone hints s c (r, o) b n
alone s hints r c o b n y h = grind (arith, nat_tests, gots_long s, one_alike, if_some_at)
