-- No window's hull is longer than its buffer, and no call of a step transfers more.
use Rattle.whole_run_laws.proofs.Words.{and_first, and_second, lawful_parts, ◌≡◌, ℕ, suc, ◌+◌, ◌<◌, ◌≤◌, inl, inr, ◌⊎◌, List, [], ◌∷◌, length, Bool, true, false, cond, not, max, arith, filter, flat_map, nat_le, nat_lt, is_none, enumerate_from, equal_itself, filter_in, filter_ascends, flat_in, in_either, in_order_ascends, last_below, map_in, Header, Hints, Script, DiskCall, Mark, Offer, calls_from, collective_windows, get_bytes, gets_of, hull_len, in_order, last_of, loads, meeting_calls, put_calls, run_calls, sieved, sieving_windows, solo_calls, store_records, Counted, Setting, puts_of, told, is_lawful, In, Going, after_mark, closed, first_state, setting_of, Puts, bytes_of, covered, is_count_store, longest, transferred, le_two, window_short, nat_tests, ltb-true, ltb-false}

-- ---- the buffers of a lawful script

record Buffers (hints : Hints) : Type 0 where
  cb : 1 ≤ hints.cb_buffer
  rd : 1 ≤ hints.rd_buffer
  wr : 1 ≤ hints.wr_buffer

some_buffers : (script : Script) → is_lawful script ≡ true → Buffers script.hints
some_buffers script h = grind (arith, nat_tests, lawful_parts script h, and_first, and_second)

-- ---- hulls

pub collective_short : (hints : Hints) (bytes w : List ℕ) → 1 ≤ hints.cb_buffer → In (collective_windows hints (in_order bytes)) w → hull_len w ≤ hints.cb_buffer
collective_short hints bytes w l h = grind (arith, nat_tests, flat_in, filter_in, not, window_short, map_in, filter_ascends, in_order_ascends)

front_short : (x buffer : ℕ) (rest : List ℕ) (t : Bool) → 1 ≤ buffer → nat_lt x (x + buffer) ≡ t
    → ((y : ℕ) → In (cond t (x ∷ rest) rest) y → y < x + buffer) → hull_len (cond t (x ∷ rest) rest) ≤ buffer
front_short x buffer rest true l e h = let last : last_of (x ∷ rest) + 1 ≤ x + buffer = last_below (x ∷ rest) (x + buffer) (omega arith) h in omega arith
front_short x buffer rest false l e h = let k : x + buffer ≤ x = ltb-false _ _ e in absurd (omega arith)

sieved_short : (fuel buffer : ℕ) (bytes w : List ℕ) → 1 ≤ buffer → In (sieved fuel buffer bytes) w → hull_len w ≤ buffer
sieved_short (suc fuel) buffer (x ∷ bytes) w l (inl e) = grind (arith, nat_tests, front_short, ltb-true, filter_in)
sieved_short (suc fuel) buffer (x ∷ bytes) w l (inr h) = sieved_short fuel buffer (filter (λ y. nat_le (x + buffer) y) bytes) w l h
sieved_short _ buffer _ w l h = absurd h

pub sieving_short : (buffer : ℕ) (bytes w : List ℕ) → 1 ≤ buffer → In (sieving_windows buffer bytes) w → hull_len w ≤ buffer
sieving_short buffer bytes w l h = sieved_short (length bytes) buffer bytes w l h

-- ---- the calls of a step

put_short : (s : Setting) (cut : List ℕ → List (List ℕ)) (puts : Puts) (size n : ℕ) (call : DiskCall)
    → ((w : List ℕ) → In (cut (in_order (covered s.header puts))) w → hull_len w ≤ n) → In (put_calls s cut puts size) call → transferred call ≤ n
put_short s cut puts size n call f h = grind (arith, nat_tests, told, in_order, in_either, flat_in, transferred, is_none)

get_short : (ws : List (List ℕ)) (n : ℕ) (call : DiskCall) → ((w : List ℕ) → In ws w → hull_len w ≤ n) → In (flat_map loads ws) call → transferred call ≤ n
get_short ws n call f h = grind (arith, nat_tests, flat_in)

count_stored : (s : Setting) (grew : Bool) (call : DiskCall) → In (store_records s grew) call → is_count_store s.header call ≡ true
count_stored s grew call k = grind (arith, nat_tests, equal_itself)

pub meeting_short : (hints : Hints) (s : Setting) (offers : List Offer) (c : Counted) (call : DiskCall) → 1 ≤ hints.cb_buffer
    → In (meeting_calls hints s offers c) call → (transferred call ≤ hints.cb_buffer) ⊎ (is_count_store s.header call ≡ true)
meeting_short hints s offers c call l h =
    let puts = flat_map puts_of (enumerate_from 0 offers) in
    let asked = flat_map gets_of offers in
    let put = put_short s (collective_windows hints) puts (length c.file) hints.cb_buffer call (λ w g. collective_short hints (covered s.header puts) w l g) in
    let get = get_short (collective_windows hints (get_bytes s asked)) hints.cb_buffer call (λ w g. collective_short hints (flat_map (λ p. bytes_of s.header p) asked) w l g) in
    grind (arith, nat_tests, in_either, put, get, count_stored s)

-- where no window of its puts is longer than that, and none of its gets
solo_parts : (hints : Hints) (s : Setting) (r : ℕ) (o : Offer) (c : Counted) (n : ℕ) (call : DiskCall)
    → ((w : List ℕ) → In (sieving_windows hints.wr_buffer (in_order (covered s.header (puts_of (r, o))))) w → hull_len w ≤ n)
    → ((w : List ℕ) → In (sieving_windows hints.rd_buffer (get_bytes s (gets_of o))) w → hull_len w ≤ n) → In (solo_calls hints s r o c) call → transferred call ≤ n
solo_parts hints s r o c n call puts gets h =
    grind (arith, nat_tests, in_either, put_short s (sieving_windows hints.wr_buffer) (puts_of (r, o)) (length c.file) n call puts, get_short (sieving_windows hints.rd_buffer (get_bytes s (gets_of o))) n call gets)

pub solo_short : (hints : Hints) (s : Setting) (r : ℕ) (o : Offer) (c : Counted) (call : DiskCall) → 1 ≤ hints.wr_buffer → 1 ≤ hints.rd_buffer
    → In (solo_calls hints s r o c) call → transferred call ≤ max hints.wr_buffer hints.rd_buffer
solo_short hints s r o c call l m h =
    solo_parts hints s r o c (max hints.wr_buffer hints.rd_buffer) call
    (λ w g. le_two (hull_len w) hints.wr_buffer _ (sieving_short hints.wr_buffer (in_order (covered s.header (puts_of (r, o)))) w l g) (omega arith))
    (λ w g. le_two (hull_len w) hints.rd_buffer _ (sieving_short hints.rd_buffer (get_bytes s (gets_of o)) w m g) (omega arith)) h

pub solo_puts_short : (hints : Hints) (s : Setting) (r : ℕ) (o : Offer) (c : Counted) (call : DiskCall) → 1 ≤ hints.wr_buffer → o.batch.gets ≡ []
    → In (solo_calls hints s r o c) call → transferred call ≤ hints.wr_buffer
solo_puts_short hints s r o c call l e h =
    solo_parts hints s r o c hints.wr_buffer call (λ w g. sieving_short hints.wr_buffer (in_order (covered s.header (puts_of (r, o)))) w l g) (λ w g. grind (arith, nat_tests)) h

pub solo_gets_short : (hints : Hints) (s : Setting) (r : ℕ) (o : Offer) (c : Counted) (call : DiskCall) → 1 ≤ hints.rd_buffer → o.batch.puts ≡ []
    → In (solo_calls hints s r o c) call → transferred call ≤ hints.rd_buffer
solo_gets_short hints s r o c call l e h =
    solo_parts hints s r o c hints.rd_buffer call (λ w g. grind (arith, nat_tests)) (λ w g. sieving_short hints.rd_buffer (get_bytes s (gets_of o)) w l g) h

-- ---- the calls of a run

calls_short : (hints : Hints) (s : Setting) (state : Counted × List Going) (order : List Mark) (call : DiskCall) → Buffers hints → In (calls_from hints s state order) call
    → (transferred call ≤ longest hints) ⊎ (is_count_store s.header call ≡ true)
calls_short hints s state [] call some h = inr (count_stored s (nat_lt state.0.records (closed s state).records) call h)
calls_short hints s state (m ∷ order) call some h = grind (arith, nat_tests, calls_short hints s (after_mark s state m) order call some, in_either, meeting_short, le_two, solo_short)

pub run_short : (script : Script) (header : Header) (file : List ℕ) (order : List Mark) (call : DiskCall) → is_lawful script ≡ true
    → In (run_calls script header file order) call → (transferred call ≤ longest script.hints) ⊎ (is_count_store header call ≡ true)
run_short script header file order call lawful h =
    calls_short script.hints (setting_of script header) (first_state header file script.calls) order call (some_buffers script lawful) h
