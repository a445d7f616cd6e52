-- A meeting of the serial run, by the offers that the runners hold.
use Rattle.turn_run.proofs.Words.{◌≡◌, ℕ, suc, ◌+◌, refl, sym, ◌∙◌, ap, List, [], ◌∷◌, ◌++◌, length, map, max, Option, Some, None, arith, append-nil, slice_get, flat_map, zip, IfSome, enumerate_from, Pair, Header, Batch, Post, Call, Hints, DiskCall, Mark, Meet, Offer, Reply, after, with_end, needed_now, gets_of, meeting_calls, Counted, Setting, after_puts, get_post, meeting, puts_of, raised, told, advance, offers_of, Puts, counted, gets_in, puts_in, puts_of_batch, reply_of, HasHeard, heard, step_to, Arrived, gots_long, meets_like, AllTell, wanted, arrived_all, stage, HasLed, LeadsAlike, batches_of, held_offers, known_of, met, met_calls, Runner, value_of_some, if_some_at, map_map, raised_records, all_between, entry_below, hears, slice_get_within, nat_tests}
use Rattle.turn_run.proofs.AloneLaws.{arrived_held}
use Rattle.turn_run.proofs.MeetOffers.{held_first, AllHold}
use Rattle.turn_run.proofs.RunnerLaws.{heard_runner}
use Rattle.turn_run.proofs.SaidLaws.{between_up}
use Rattle.turn_run.proofs.StageLaws.{some_each}

-- ---- the puts and gets of the offers are those of their batches

pub puts_same : (first : ℕ) (offers : List Offer) → flat_map puts_of (enumerate_from first offers) ≡ flat_map puts_of_batch (enumerate_from first (batches_of offers))
puts_same first [] = refl
puts_same first (o ∷ offers) = ap (λ (puts : Puts). map (λ post. (first, post)) o.batch.puts ++ puts) (puts_same (first + 1) offers)

gets_same : (offers : List Offer) → flat_map gets_of offers ≡ gets_in (batches_of offers)
gets_same [] = refl
gets_same (o ∷ offers) = ap (λ (gets : List Post). o.batch.gets ++ gets) (gets_same offers)

pub met_is : (s : Setting) (offers : List Offer) (batches : List Batch) (known : ℕ) (c : Counted) → batches ≡ batches_of offers → known ≡ known_of offers
    → (meeting s offers c).0 ≡ met s batches known c
met_is s offers batches known c e f = grind (arith, nat_tests, raised s, told s, puts_same 0 offers)

pub met_calls_are : (hints : Hints) (s : Setting) (offers : List Offer) (batches : List Batch) (known : ℕ) (c : Counted) → batches ≡ batches_of offers → known ≡ known_of offers
    → meeting_calls hints s offers c ≡ met_calls hints s batches known c
met_calls_are hints s offers batches known c e f =
    let puts = puts_same 0 offers ∙ ap puts_in (sym e) in let gets = gets_same offers ∙ ap gets_in (sym e) in
    grind (arith, nat_tests, met_is, c.file, c.records, flat_map)

-- ---- the replies

pub replies_are : (s : Setting) (offers : List Offer) (batches : List Batch) (known n : ℕ) (c : Counted) (pair : Option Pair) (table : List (List (List ℕ)))
    → batches ≡ batches_of offers → known ≡ known_of offers → pair ≡ told s (puts_in batches) → n ≡ (met s batches known c).records
    → table ≡ map (λ b. map (get_post s (met s batches known c).file) b.gets) batches → (meeting s offers c).1 ≡ map (reply_of pair n) table
replies_are s offers batches known n c pair table e f p r t =
    let file = met_is s offers batches known c e f in
    let both : told s (flat_map puts_of (enumerate_from 0 offers)) ≡ pair = ap (told s) (puts_same 0 offers ∙ ap puts_in (sym e)) ∙ sym p in
    let count : (meeting s offers c).0.records ≡ n = ap (λ (d : Counted). d.records) file ∙ sym r in
    let got = λ (o : Offer). map (get_post s (met s batches known c).file) o.batch.gets in
    (λ i. map (λ o. reply_of (both i) (count i) (map (get_post s (file i).file) o.batch.gets)) offers) ∙ sym (map_map (reply_of pair n) got offers)
    ∙ ap (map (reply_of pair n)) (sym (map_map (λ (b : Batch). map (get_post s (met s batches known c).file) b.gets) (λ (o : Offer). o.batch) offers))
    ∙ ap (λ (bs : List Batch). map (reply_of pair n) (map (λ b. map (get_post s (met s batches known c).file) b.gets) bs)) (sym e) ∙ ap (map (reply_of pair n)) (sym t)

-- ---- the ranks

-- it held this offer, and has heard this reply
pub record IsDone (header : Header) (reply : Reply) (o : Offer) (a b : Runner) : Type 0 where
  pub held : a.held ≡ Some o
  pub free : b.held ≡ None
  pub of_header : a.rank.header ≡ header
  pub same_header : b.rank.header ≡ a.rank.header
  pub heard : HasHeard a b reply

abbrev pub AreDone : Header → Option Pair → ℕ → List Runner → List Runner → List (List (List ℕ)) → Type 0
AreDone header pair n runners now table = (r : ℕ) (a b : Runner) (blobs : List (List ℕ)) → slice_get runners r ≡ Some a → slice_get now r ≡ Some b → slice_get table r ≡ Some blobs
    → (o : Offer) × IsDone header (reply_of pair n blobs) o a b

-- what the ranks have of a meeting
pub record HaveDone (header : Header) (pair : Option Pair) (n : ℕ) (runners now : List Runner) (table : List (List (List ℕ))) : Type 0 where
  pub long : length now ≡ length runners
  pub wide : length table ≡ length runners
  pub each : AreDone header pair n runners now table

-- those behind the first
done_behind : {header : Header} {pair : Option Pair} {n : ℕ} {a b : Runner} {runners now : List Runner} {blobs : List (List ℕ)} {table : List (List (List ℕ))}
    → HaveDone header pair n (a ∷ runners) (b ∷ now) (blobs ∷ table) → HaveDone header pair n runners now table
done_behind d = record { long = omega arith; wide = omega arith; each = λ r x y z e f g. d.each (suc r) x y z e f g }

-- where each heard
pub between_done : (header : Header) (pair : Option Pair) (n : ℕ) (calls : List (List Call)) (runners now : List Runner) (table : List (List (List ℕ))) → HaveDone header pair n runners now table
    → map (λ p. hears header p.0.0 p.1) (zip (arrived_all header calls runners) (map (reply_of pair n) table)) ≡ all_between calls now
between_done header pair n (own ∷ calls) (a ∷ runners) (b ∷ now) (blobs ∷ table) d =
    let first = d.each 0 a b blobs refl refl refl in grind (arith, nat_tests, arrived_held, heard_runner, between_done header pair n calls runners now table (done_behind d), done_behind)
between_done header pair n [] runners now table d = refl
between_done header pair n (own ∷ calls) [] [] table d = refl
between_done header pair n calls runners now table d = absurd (omega arith)

ranks_done : (header : Header) (pair : Option Pair) (n : ℕ) (calls : List (List Call)) (runners now : List Runner) (table : List (List (List ℕ))) → HaveDone header pair n runners now table
    → map (heard header) (zip (arrived_all header calls runners) (map (reply_of pair n) table)) ≡ arrived_all header calls now
ranks_done header pair n calls runners now table d =
    sym (map_map (advance header) (λ (p : Arrived × Reply). hears header p.0.0 p.1) (zip (arrived_all header calls runners) (map (reply_of pair n) table)))
    ∙ ap (map (advance header)) (between_done header pair n calls runners now table d) ∙ between_up header calls now (λ r b e.
    let l = slice_get_within now r b e in let a = entry_below runners r (omega arith) in let row = entry_below table r (omega arith) in
    (d.each r a.0 b row.0 a.1 e row.1).1.free)

pub offers_are : (header : Header) (calls : List (List Call)) (runners : List Runner) → length calls ≡ length runners → AllHold runners → offers_of (arrived_all header calls runners) ≡ held_offers runners
offers_are header [] [] l m = refl
offers_are header (own ∷ calls) (x ∷ runners) l m =
    let p = value_of_some x.held (m 0 x refl) in
    ap (λ (a : Arrived). offers_of (a ∷ arrived_all header calls runners)) (arrived_held header own x p.0 p.1)
    ∙ ap (λ (os : List Offer). p.0 ∷ os) (offers_are header calls runners (omega arith) (λ q s g. m (suc q) s g)) ∙ sym (held_first x runners p.0 p.1)
offers_are header calls runners l m = absurd (omega arith)

-- ---- the step

-- what a meeting takes: the offers that all runners hold
pub record IsTaken (calls : List (List Call)) (runners : List Runner) (batches : List Batch) (known : ℕ) : Type 0 where
  pub long : length calls ≡ length runners
  pub hold : AllHold runners
  pub offered : batches ≡ batches_of (held_offers runners)
  pub most : known ≡ known_of (held_offers runners)

-- what it comes to: the pair that all are told, the count, the bytes of the file and those of the gets
pub record HasGiven (s : Setting) (batches : List Batch) (known r n : ℕ) (held left : Option (List ℕ)) (pair : Option Pair) (table : List (List (List ℕ))) : Type 0 where
  pub shared : pair ≡ told s (puts_in batches)
  pub count : n ≡ max r (max (needed_now s (puts_in batches)) known)
  pub bytes : left ≡ after (λ file. (met s batches known (counted file r)).file) held
  pub got : IfSome left (λ file. table ≡ map (λ b. map (get_post s file) b.gets) batches)

pub met_count : (s : Setting) (batches : List Batch) (known : ℕ) (file : List ℕ) (r : ℕ) → (met s batches known (counted file r)).records ≡ max r (max (needed_now s (puts_in batches)) known)
met_count s batches known file r = raised_records s (counted (after_puts s (puts_in batches) (told s (puts_in batches)) file) r) (max (needed_now s (puts_in batches)) known)

pub meet_at : (s : Setting) {calls : List (List Call)} {runners : List Runner} {batches : List Batch} {known : ℕ} (k : ℕ) (c : Counted) → IsTaken calls runners batches known
    → met s batches known c ≡ (step_to s (c, arrived_all s.header calls runners) (Meet k)).0
meet_at s {calls} {runners} {batches} {known} k c t = grind (arith, nat_tests, offers_are, met_is, met, step_to, arrived_all)

-- the replies, where the offers that the runners hold are those of the ranks
pub replies_of : {s : Setting} {calls : List (List Call)} {runners : List Runner} {batches : List Batch} {known r n : ℕ} {file : List ℕ} {left : Option (List ℕ)} {pair : Option Pair} {table : List (List (List ℕ))}
    → IsTaken calls runners batches known → HasGiven s batches known r n (Some file) left pair table
    → (meeting s (offers_of (arrived_all s.header calls runners)) (counted file r)).1 ≡ map (reply_of pair n) table
replies_of {s} {calls} {runners} {batches} {known} {r} {n} {file} {left} {pair} {table} t h =
    ap (λ (os : List Offer). (meeting s os (counted file r)).1) (offers_are s.header calls runners t.long t.hold)
    ∙ replies_are s (held_offers runners) batches known n (counted file r) pair table t.offered t.most h.shared (h.count ∙ sym (met_count s batches known file r))
    (if_some_at (λ x. table ≡ map (λ b. map (get_post s x) b.gets) batches) left (met s batches known (counted file r)).file h.bytes h.got)

step_over : {s : Setting} {calls : List (List Call)} {runners now : List Runner} {batches : List Batch} {known r n : ℕ} {file : List ℕ} {left : Option (List ℕ)} {pair : Option Pair} {table : List (List (List ℕ))} (k : ℕ)
    → IsTaken calls runners batches known → HaveDone s.header pair n runners now table → HasGiven s batches known r n (Some file) left pair table
    → step_to s (counted file r, arrived_all s.header calls runners) (Meet k) ≡ (counted (met s batches known (counted file r)).file n, arrived_all s.header calls now)
step_over {s} {calls} {runners} {now} {batches} {known} {r} {n} {file} {left} {pair} {table} k t d h =
    grind (arith, nat_tests, replies_of t h, met_count s batches known file r, ranks_done s.header pair n calls runners now table d, meet_at s k (counted file r) t)

-- the replies of a meeting over any file tell what these tell, but for the bytes of the gets
tells_table : (s : Setting) (one pair : Option Pair) (m n : ℕ) (file : List ℕ) (offers : List Offer) (table : List (List (List ℕ))) → one ≡ pair → m ≡ n
    → map (λ (blobs : List (List ℕ)). map (λ (blob : List ℕ). length blob) blobs) table ≡ map (λ (b : Batch). map (wanted s.header) b.gets) (batches_of offers)
    → AllTell (map (λ (o : Offer). reply_of one m (map (get_post s file) o.batch.gets)) offers) (map (reply_of pair n) table)
tells_table s one pair m n file [] [] e f fits = tt
tells_table s one pair m n file (o ∷ offers) (blobs ∷ table) e f fits =
    grind (arith, nat_tests, gots_long, tells_table s one pair m n file offers table e f cc, reply_of)
tells_table s one pair m n file offers table e f fits = absurd cc

-- the lengths of the bytes that the gets of a meeting give
abbrev pub FitsGets : Header → List Batch → List (List (List ℕ)) → Type 0
FitsGets header batches table = map (λ (blobs : List (List ℕ)). map (λ (blob : List ℕ). length blob) blobs) table ≡ map (λ (b : Batch). map (wanted header) b.gets) batches

pub meeting_alike : (s : Setting) {calls : List (List Call)} {runners now : List Runner} {batches : List Batch} {known r n : ℕ} (k : ℕ) {pair : Option Pair} {table : List (List (List ℕ))}
    → IsTaken calls runners batches known → HaveDone s.header pair n runners now table → pair ≡ told s (puts_in batches) → n ≡ max r (max (needed_now s (puts_in batches)) known)
    → FitsGets s.header batches table → LeadsAlike s (Meet k ∷ []) r (arrived_all s.header calls runners) n (arrived_all s.header calls now)
meeting_alike s {calls} {runners} {now} {batches} {known} {r} {n} k {pair} {table} t d shared count fits stand like =
    let offers = offers_are s.header calls runners t.long t.hold in let held = held_offers runners in
    let c = stand.0 in
    let records_is : (meeting s held c).0.records ≡ n =
    grind (arith, nat_tests, met_is, met_count, like.records, puts_in) in
    let both : told s (flat_map puts_of (enumerate_from 0 held)) ≡ pair = ap (told s) (puts_same 0 held ∙ ap puts_in (sym t.offered)) ∙ sym shared in
    let tells : AllTell (meeting s held c).1 (map (reply_of pair n) table) =
    tells_table s (told s (flat_map puts_of (enumerate_from 0 held))) pair (meeting s held c).0.records n (meeting s held c).0.file held table both records_is
    (fits ∙ ap (λ (bs : List Batch). map (λ (b : Batch). map (wanted s.header) b.gets) bs) t.offered) in
    grind (arith, nat_tests, ranks_done s.header pair n calls runners now table d, meets_like s stand k r n (arrived_all s.header calls runners) (map (reply_of pair n) table) like, step_to, arrived_all, reply_of)

pub meeting_led : {hints : Hints} {s : Setting} {order now_order : List Mark} {calls : List (List Call)} {runners now : List Runner} {batches : List Batch} {known r n : ℕ} (k : ℕ)
    {held left : Option (List ℕ)} {before made : Option (List DiskCall)} {pair : Option Pair} {table : List (List (List ℕ))}
    → IsTaken calls runners batches known → HaveDone s.header pair n runners now table → HasGiven s batches known r n held left pair table → FitsGets s.header batches table
    → IfSome held (λ file. made ≡ with_end before (met_calls hints s batches known (counted file r))) → now_order ≡ order ++ Meet k ∷ []
    → HasLed hints s order now_order (stage held before r (arrived_all s.header calls runners)) (stage left made n (arrived_all s.header calls now))
meeting_led {hints} {s} {order} {now_order} {calls} {runners} {now} {batches} {known} {r} {n} k {held} {left} {before} {made} {pair} {table} t d h fits over grown = record {
  more = Meet k ∷ [];
  grown = grown;
  led = some_each held (λ file there.
      let c = counted file r in let given : HasGiven s batches known r n (Some file) left pair table = rw there at h in
      record {
        left = (met s batches known c).file;
        told = given.bytes;
        state = step_over k t d given;
        calls = if_some_at (λ (f : List ℕ). made ≡ with_end before (met_calls hints s batches known (counted f r))) held file there over
            ∙ ap (with_end before) (sym (met_calls_are hints s (held_offers runners) batches known c t.offered t.most)
            ∙ ap (λ (os : List Offer). meeting_calls hints s os c) (sym (offers_are s.header calls runners t.long t.hold))
            ∙ sym (append-nil (meeting_calls hints s (offers_of (arrived_all s.header calls runners)) c)));
      });
  alike = meeting_alike s k t d h.shared h.count fits;
}
