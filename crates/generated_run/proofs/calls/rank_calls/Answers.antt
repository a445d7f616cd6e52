use Rattle.generated_run.proofs.Words.{◌≡◌, List, [], ◌∷◌, ◌++◌, true, codes, refl, ap, ◌∙◌, append_assoc, flat_map, range_with_len, Call, calls_of_record, columns_of}
use Rattle.nc_base.specs.declared.request.Call.TheVariants as call
use Rattle.generated_run.proofs.CallLaws.{rank_is}
use Rattle.generated_run.proofs.calls.rank_calls.Goals as goal

pub returns : goal.returns
returns c =
    let records : List Call = flat_map (λ t. calls_of_record c.args.seed c.args.rank t) (range_with_len 0 c.args.size) in
    let a : Call = call.Get true (codes "temp") (columns_of c.args.size c.args.rank) in
    let b : Call = call.Get true (codes "precip") (columns_of c.args.size c.args.rank) in
    let begun : c.push_records.new.calls ≡ call.Attach 65536 ∷ records =
    c.in_ok-push_records.ensures ∙ ap (λ (t : List Call). t ++ records) (c.in_ok-push.ensures.ok ∙ ap (λ (t : List Call). t ++ call.Attach 65536 ∷ []) c.new-calls.ensures) in
    c.in_ok-push-2.ensures.ok
    ∙ ap (λ (t : List Call). t ++ call.Detach ∷ []) c.in_ok-push_gets.ensures
    ∙ append_assoc c.push_records.new.calls (a ∷ b ∷ []) (call.Detach ∷ [])
    ∙ ap (λ (t : List Call). t ++ a ∷ b ∷ call.Detach ∷ []) begun
    ∙ rank_is c.args.seed c.args.size c.args.rank a b refl refl
