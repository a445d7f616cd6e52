-- One window more.
use Rattle.exchange_crew.proofs.Words.{◌∙◌, ◌++◌, ◌∷◌, [], sym, ap, append_assoc, map, List, append-nil, map-append, told_window, turns_ahead, Told}
use Rattle.exchange_crew.proofs.walk.window_list.Goals as goal

pub turns-preserved : goal.turns-preserved
turns-preserved c =
    let list = c.turns.list.items in
    let ahead = turns_ahead c.next_window.new.windows in
    record {
      ready = c.in-Some.ensures.ready;
      listed = ap (λ ws. map told_window ws ++ ahead) c.in_ok-push.ensures.items ∙ ap (λ (ts : List Told). ts ++ ahead) (map-append told_window list (c.in-Some.window ∷ []))
          ∙ append_assoc (map told_window list) (told_window c.in-Some.window ∷ []) ahead ∙ sym (ap (λ (ts : List Told). map told_window list ++ ts) c.in-Some.ensures.some)
          ∙ c.turns.invariant.listed;
    }

pub returns : goal.returns
returns c = sym (append-nil (map told_window c.turns.list.items)) ∙ sym (ap (λ (ts : List Told). map told_window c.turns.list.items ++ ts) c.in_default.ensures.none)
    ∙ c.turns.invariant.listed
