-- The blobs are taken out, and put back as they were read. Those of all parts have the file's bytes.
use Rattle.get_exchange.proofs.Words.{◌≡◌, ◌∙◌, List, ℕ, length, subst, rules, arith, common_steps, zip, on_ok_weaker, AreAsLong, HasReadParts, OnOk, nat_tests}
use Rattle.get_exchange.proofs.PartReads.{parts_read, table_back}
use Rattle.get_exchange.proofs.exchange.exchange_get.Goals as goal

pub get_parts-came-requires-clause-fit : goal.get_parts-came-requires-clause-fit
get_parts-came-requires-clause-fit g c κs within = grind (arith, nat_tests, c.deref_mut.ensures.value, c.requires.fit)

pub returns : goal.returns
returns g c =
    let plan = c.args.plan.now in
    let filled = c.get_parts-came.new.table in
    let given : c.deref_mut.result.now ≡ c.into_vec-table.result.items = c.deref_mut.ensures.value in
    let room : c.into_vec-table.result.len ≡ length c.into_vec-table.result.items = first_of (search rules, grind (arith, common_steps)) in
    let stays = table_back c.into_vec-table.result.len c.into_vec-table.result.items c.deref_mut.result.now filled given room c.get_parts-came.ensures.blobs in
    let begun : c.into_vec-table.result.items ≡ c.args.into.now = first_of (search rules, grind (arith, common_steps)) in
    let made : c.from_vec.result ≡ filled = first_of (search (rules, stays), grind (arith, common_steps)) in
    let blobs = subst (λ (t : List (List (List ℕ))). AreAsLong t filled) (given ∙ begun) c.get_parts-came.ensures.blobs in
    let read = subst (λ (t : List (List (List ℕ))). OnOk c.get_parts-came.result.1 (HasReadParts (λ d. g.D.Disk.from d) (λ d. g.D.Disk.held d) plan (zip c.args.parts.items c.args.domains.now) t filled)) (given ∙ begun)
    c.get_parts-came.ensures.read in
    record {
      got = c.get_parts-came.ensures.got;
      read = λ file slices.
          rw made (on_ok_weaker c.get_parts-came.result.1 (parts_read (λ d. g.D.Disk.from d) (λ d. g.D.Disk.len d) (λ d. g.D.Disk.held d) plan c.args.parts.items c.args.domains.now file c.args.into.now
          filled c.requires.plan c.requires.one_each c.requires.domains c.requires.whole c.requires.fit c.requires.one_place slices) read);
      blobs = rw made blobs;
      failed = c.get_parts-came.ensures.failed;
    }
