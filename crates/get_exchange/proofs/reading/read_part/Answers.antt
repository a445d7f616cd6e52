-- Each window is read, and its hull put on the line.
use Rattle.get_exchange.proofs.Words.{◌≡◌, ◌∙◌, ◌++◌, ◌∷◌, [], List, ap, map, false, arith, drop_all, told_window, Window, Hull, rules, common_steps, nat_tests}
use Rattle.get_exchange.proofs.FetchLaws.{fetch_begin, fetch_end, fetch_next, fetch_on, windows_left}
use Rattle.get_exchange.proofs.reading.read_part.Goals as goal

abbrev none : Window
none = record { round = 0; hull = record { at = 0; len = 0 }; full = false }

pub loop-window-init : goal.loop-window-init
loop-window-init g c = grind (arith, nat_tests, fetch_begin, c.requires.on_part, c.requires.empty)

pub read_turn-came-requires-clause-low : goal.read_turn-came-requires-clause-low
read_turn-came-requires-clause-low g c κs within =
    let on = fetch_on c.loop-window.invariant.fetching (windows_left c.args.windows.now c.loop-window.window-index none c.loop-window-test.true) in
    omega (arith, on.0, c.loop-window.invariant.from)

pub read_turn-came-requires-clause-high : goal.read_turn-came-requires-clause-high
read_turn-came-requires-clause-high g c κs within =
    let on = fetch_on c.loop-window.invariant.fetching (windows_left c.args.windows.now c.loop-window.window-index none c.loop-window-test.true) in
    omega (arith, on.1, c.loop-window.invariant.from, c.loop-window.invariant.len)

pub loop-window-preserved : goal.loop-window-preserved
loop-window-preserved g c =
    let windows = c.args.windows.now in
    let i = c.loop-window.window-index in
    let came = c.read_turn-came.ensures in
    let later = came.cause.later in
    let before = c.loop-window.invariant.later in
    let put : c.reading_after.result ≡ Hull c.read_turn-came.new.bytes.items = first_of (search rules, grind (arith, common_steps)) in
    record {
      of = c.put.ensures.of ∙ c.loop-window.invariant.of;
      fetching = fetch_next _ _ _ _ _ _ _ _ _ c.read_turn-came.new.bytes.items _ _ _ _ _ c.loop-window.invariant.fetching
          (windows_left windows i none c.loop-window-test.true)
          (c.put.ensures.items ∙ ap (λ reading. c.loop-window.lines.line.items ++ reading ∷ []) put) c.loop-window.invariant.from
          c.loop-window.invariant.held (rw c.in_ok-came.was at came.read) (rw c.in_ok-came.was at came.calls);
      held = came.bytes ∙ c.loop-window.invariant.held;
      from = came.from ∙ c.loop-window.invariant.from;
      len = came.len ∙ c.loop-window.invariant.len;
      later = omega arith;
    }

pub returns : goal.returns
returns g c =
    let windows = c.args.windows.now in
    let i = c.loop-window.window-index in
    let got = fetch_end _ _ _ _ _ _ _ _ c.loop-window.invariant.fetching (ap (λ (ws : List Window). map told_window ws) (drop_all i windows c.loop-window-test.false)) in
    grind (arith, nat_tests, c.loop-window.invariant.from, c.loop-window.invariant.len, c.loop-window.invariant.held, c.loop-window.invariant.later)
