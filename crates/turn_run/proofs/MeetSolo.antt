-- The step of one rank alone, from its puts and its gets.
use Rattle.turn_run.proofs.Words.{◌≡◌, ℕ, List, flat_map, length, map, max, Option, Some, None, IfSome, Pair, DiskCall, Hints, Offer, after, with_end, Setting, after_puts, get_bytes, get_post, gets_of, loads, put_calls, puts_of, solo, solo_calls, told, pair_of, counted, PutEnd, reply_of, needed_after, if_some_at, arith, nat_tests}
use Rattle.serial_spec.specs.DeviceCalls.{sieving_windows}
use Rattle.nc_outside.proofs.ToldLaws.{calls_more}
use Rattle.turn_run.proofs.MeetPosts.{needed_solo}

pub solo_replied : (s : Setting) (r n : ℕ) (o : Offer) (end : PutEnd) (pair : Option Pair) (held mid : Option (List ℕ)) (blobs : List (List ℕ)) → pair_of end ≡ told s (puts_of (r, o))
    → pair ≡ pair_of end → n ≡ max o.known (needed_after s.header o.batch.puts end)
    → mid ≡ after (after_puts s (puts_of (r, o)) (told s (puts_of (r, o)))) held → IfSome mid (λ file. blobs ≡ map (get_post s file) o.batch.gets)
    → IfSome held (λ file. reply_of pair n blobs ≡ (solo s r o (counted file 0)).1)
solo_replied s r n o end pair None mid blobs e p m b g = tt
solo_replied s r n o end pair (Some file) mid blobs e p m b g = grind (arith, nat_tests, needed_solo s r o.batch.puts end e, if_some_at, told s (puts_of (r, o)))

-- its calls, on a file as long as its disk
pub solo_called : (hints : Hints) (s : Setting) (r len : ℕ) (o : Offer) (held : Option (List ℕ)) (calls mid last : Option (List DiskCall)) → IfSome held (λ file. length file ≡ len)
    → mid ≡ with_end calls (put_calls s (sieving_windows hints.wr_buffer) (puts_of (r, o)) len)
    → last ≡ with_end mid (flat_map loads (sieving_windows hints.rd_buffer (get_bytes s (gets_of o)))) → IfSome held (λ file. last ≡ with_end calls (solo_calls hints s r o (counted file 0)))
solo_called hints s r len o None calls mid last l p g = tt
solo_called hints s r len o (Some file) calls mid last l p g = grind (arith, nat_tests, calls_more calls mid last)
