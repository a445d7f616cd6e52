use Rattle.script_definitions.proofs.Words.{◌∙◌, List, Option, None, Some, false, bytes_eq, Bor, ℕ, sym, ap, option_map, Dim, is_added_record}
use Rattle.script_definitions.proofs.DimLaws.{is_record_name}
use Rattle.script_definitions.proofs.dims.Dims.is_named_record.Goals as goal

pub returns-in-Some : goal.returns-in-Some
returns-in-Some c =
    c.eq.ensures
    ∙ sym (ap (λ (o : Option (Bor (List ℕ))). elim (option_map (λ n. n.now) o) [ None ↦ false | Some own ↦ bytes_eq c.args.name.now own ]) c.in-Some.is)
    ∙ sym (is_record_name _ c.self.inside.list.items c.args.name.now c.self.invariant.1)
    ∙ ap (λ (dims : List Dim). is_added_record dims c.args.name.now) c.self.view_is

pub returns-in-None : goal.returns-in-None
returns-in-None c =
    sym (ap (λ (o : Option (Bor (List ℕ))). elim (option_map (λ n. n.now) o) [ None ↦ false | Some own ↦ bytes_eq c.args.name.now own ]) c.in-None.is)
    ∙ sym (is_record_name _ c.self.inside.list.items c.args.name.now c.self.invariant.1)
    ∙ ap (λ (dims : List Dim). is_added_record dims c.args.name.now) c.self.view_is
