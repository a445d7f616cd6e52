-- An end, an offer that a number makes alone, a meeting, and an offer that is held.
use Rattle.file_owner.proofs.Words.{[], sym, refl, ◌∙◌, ap, on_err_weaker, on_ok_weaker, list_all, holds, dataset_setting, owner_of, standing, count_longer, entry_read, arith, nat_tests}
use Rattle.nc_base.specs.declared.step.RankItem.TheVariants as item
use Rattle.file_owner.proofs.ArriveSteps.{all_stopped, as_item, done_alone, done_ended, done_held, done_together, good_at, held_now, on_ok_three, steady_alone, steady_ended, steady_held, stopped_as}
use Rattle.file_owner.proofs.RefusedSteps.{arrival_alone, arrival_ended, arrival_together}
use Rattle.file_owner.proofs.owner.Owner.arrive.Goals as goal

pub do_alone-requires-clause-fit : goal.do_alone-requires-clause-fit
do_alone-requires-clause-fit g c κs within =
    let b = standing g.D.Disk g.T.Told c.args.self.now c.args.out.now in
    (good_at (dataset_setting c.args.dataset.now) (g.D.Disk.len c.args.out.now.disk.now) b c.args.number c.in-Offer.call c.args.item c.in-Offer.offer c.args.dataset.now.sound c.requires.steady c.requires.number c.requires.own
    c.requires.fit c.in-Offer.is).fit

pub do_alone-requires-clause-known : goal.do_alone-requires-clause-known
do_alone-requires-clause-known g c κs within =
    let b = standing g.D.Disk g.T.Told c.args.self.now c.args.out.now in
    (good_at (dataset_setting c.args.dataset.now) (g.D.Disk.len c.args.out.now.disk.now) b c.args.number c.in-Offer.call c.args.item c.in-Offer.offer c.args.dataset.now.sound c.requires.steady c.requires.number c.requires.own
    c.requires.fit c.in-Offer.is).known

pub do_together-requires-clause-steady : goal.do_together-requires-clause-steady
do_together-requires-clause-steady g c κs within =
    let b = standing g.D.Disk g.T.Told c.args.self.now c.args.out.now in
    let good = good_at (dataset_setting c.args.dataset.now) (g.D.Disk.len c.args.out.now.disk.now) b c.args.number c.in-Offer.call c.args.item c.in-Offer.offer c.args.dataset.now.sound c.requires.steady c.requires.number
    c.requires.own c.requires.fit c.in-Offer.is in
    steady_held c.args.dataset.now.header.now (g.D.Disk.len c.args.out.now.disk.now) b c.args.number c.in-Offer.call c.in-Offer.offer c.hold.new.self c.in-Meet.field-0 c.requires.steady good
    (held_now good c.index_mut-in-Meet.result.now c.hold.new.self c.index_mut-in-Meet.ensures.value c.hold.ensures) c.in-Meet.is

pub returns-then-memory-clause-refused : goal.returns-then-memory-clause-refused
returns-then-memory-clause-refused g c = λ held single.
    let b = standing g.D.Disk g.T.Told c.args.self.now c.args.out.now in
    arrival_ended (dataset_setting c.args.dataset.now) b c.args.number c.args.out.now.records.now c.args.item c.in-Ended.memory (g.D.Disk.held c.args.out.now.disk.now) c.in-Ended.is c.requires.number refl refl

pub returns-else-memory-clause-done : goal.returns-else-memory-clause-done
returns-else-memory-clause-done g c =
    let b = standing g.D.Disk g.T.Told c.args.self.now c.args.out.now in
    as_item c.args.dataset.now.hints.now (dataset_setting c.args.dataset.now) c.args.number c.args.item (item.Ended c.in-Ended.memory) b _ c.in-Ended.is
    (done_ended c.args.dataset.now.hints.now (dataset_setting c.args.dataset.now) b c.args.number c.index_mut.result.now c.end.new.self c.in-Ended.memory
    (entry_read c.args.self.now.clients.items c.args.number c.index_mut.result.now c.requires.number c.index_mut.ensures.value) c.end.ensures)

pub returns-else-memory-clause-steady : goal.returns-else-memory-clause-steady
returns-else-memory-clause-steady g c =
    let b = standing g.D.Disk g.T.Told c.args.self.now c.args.out.now in
    steady_ended c.args.dataset.now.header.now (g.D.Disk.len c.args.out.now.disk.now) b c.args.number c.index_mut.result.now c.end.new.self c.in-Ended.memory c.requires.steady
    (entry_read c.args.self.now.clients.items c.args.number c.index_mut.result.now c.requires.number c.index_mut.ensures.value) c.end.ensures

pub returns-in-Solo-clause-done : goal.returns-in-Solo-clause-done
returns-in-Solo-clause-done g c =
    let b = standing g.D.Disk g.T.Told c.args.self.now c.args.out.now in
    let good = good_at (dataset_setting c.args.dataset.now) (g.D.Disk.len c.args.out.now.disk.now) b c.args.number c.in-Offer.call c.args.item c.in-Offer.offer c.args.dataset.now.sound c.requires.steady c.requires.number
    c.requires.own c.requires.fit c.in-Offer.is in
    on_ok_weaker c.do_alone.result (λ h.
    as_item c.args.dataset.now.hints.now (dataset_setting c.args.dataset.now) c.args.number c.args.item (item.Offer c.in-Offer.call c.in-Offer.offer) b
    (standing g.D.Disk g.T.Told c.do_alone.new.self c.do_alone.new.out) c.in-Offer.is
    (done_alone c.args.dataset.now.hints.now (dataset_setting c.args.dataset.now) b
    (standing g.D.Disk g.T.Told c.do_alone.new.self c.do_alone.new.out) c.args.number c.in-Offer.call c.in-Offer.offer good.client good.there
    c.in-Solo.is h)) c.do_alone.ensures.done

pub returns-in-Solo-clause-steady : goal.returns-in-Solo-clause-steady
returns-in-Solo-clause-steady g c =
    let b = standing g.D.Disk g.T.Told c.args.self.now c.args.out.now in
    on_ok_three c.do_alone.result (λ done reached more.
    steady_alone c.args.dataset.now.header.now (g.D.Disk.len c.args.out.now.disk.now) (g.D.Disk.len c.do_alone.new.out.disk.now) b
    (standing g.D.Disk g.T.Told c.do_alone.new.self c.do_alone.new.out) c.requires.steady
    (ap (λ v. v.items) c.do_alone.ensures.clients) done.lines.long c.do_alone.ensures.records c.do_alone.ensures.longer more (reached c.requires.steady.reached))
    c.do_alone.ensures.done c.do_alone.ensures.reached c.do_alone.ensures.more

pub returns-in-Solo-clause-count : goal.returns-in-Solo-clause-count
returns-in-Solo-clause-count g c = grind (arith, nat_tests, count_longer, c.do_alone.ensures.records, c.do_alone.ensures.longer, c.requires.steady.count)

pub returns-then-all_hold-clause-done : goal.returns-then-all_hold-clause-done
returns-then-all_hold-clause-done g c =
    let b = standing g.D.Disk g.T.Told c.args.self.now c.args.out.now in
    let good = good_at (dataset_setting c.args.dataset.now) (g.D.Disk.len c.args.out.now.disk.now) b c.args.number c.in-Offer.call c.args.item c.in-Offer.offer c.args.dataset.now.sound c.requires.steady c.requires.number
    c.requires.own c.requires.fit c.in-Offer.is in
    let now = standing g.D.Disk g.T.Told c.do_together.new.self c.do_together.new.out in
    on_ok_weaker c.do_together.result (λ h.
    as_item c.args.dataset.now.hints.now (dataset_setting c.args.dataset.now) c.args.number c.args.item (item.Offer c.in-Offer.call c.in-Offer.offer) b now c.in-Offer.is
    (done_together c.args.dataset.now.hints.now (dataset_setting c.args.dataset.now) b now c.args.number c.in-Offer.call c.in-Offer.offer good.client c.hold.new.self c.in-Meet.field-0 good.there
    (held_now good c.index_mut-in-Meet.result.now c.hold.new.self c.index_mut-in-Meet.ensures.value c.hold.ensures) c.in-Meet.is (ap (λ ss. list_all holds ss) (sym c.deref-in-Meet.ensures.value) ∙ sym c.all_hold.ensures ∙ c.if-all_hold.true) h)) c.do_together.ensures.done

pub returns-then-all_hold-clause-stopped : goal.returns-then-all_hold-clause-stopped
returns-then-all_hold-clause-stopped g c =
    let b = standing g.D.Disk g.T.Told c.args.self.now c.args.out.now in
    let good = good_at (dataset_setting c.args.dataset.now) (g.D.Disk.len c.args.out.now.disk.now) b c.args.number c.in-Offer.call c.args.item c.in-Offer.offer c.args.dataset.now.sound c.requires.steady c.requires.number
    c.requires.own c.requires.fit c.in-Offer.is in
    grind (arith, nat_tests, stopped_as (owner_of c.args.self.now [] 0) c.args.number c.args.item, all_stopped (owner_of c.args.self.now [] 0) c.args.number c.in-Offer.call c.in-Offer.offer good.client, holds, c.in-Offer.is, c.deref-in-Meet.ensures.value, c.all_hold.ensures, c.if-all_hold.true, c.requires.steady.one_each, c.do_together.ensures.stopped)

pub returns-else-all_hold-clause-done : goal.returns-else-all_hold-clause-done
returns-else-all_hold-clause-done g c =
    let b = standing g.D.Disk g.T.Told c.args.self.now c.args.out.now in
    let good = good_at (dataset_setting c.args.dataset.now) (g.D.Disk.len c.args.out.now.disk.now) b c.args.number c.in-Offer.call c.args.item c.in-Offer.offer c.args.dataset.now.sound c.requires.steady c.requires.number
    c.requires.own c.requires.fit c.in-Offer.is in
    as_item c.args.dataset.now.hints.now (dataset_setting c.args.dataset.now) c.args.number c.args.item (item.Offer c.in-Offer.call c.in-Offer.offer) b _ c.in-Offer.is
    (done_held c.args.dataset.now.hints.now (dataset_setting c.args.dataset.now) b c.args.number c.in-Offer.call c.in-Offer.offer good.client c.hold.new.self c.in-Meet.field-0 good.there
    (held_now good c.index_mut-in-Meet.result.now c.hold.new.self c.index_mut-in-Meet.ensures.value c.hold.ensures) c.in-Meet.is (ap (λ ss. list_all holds ss) (sym c.deref-in-Meet.ensures.value) ∙ sym c.all_hold.ensures ∙ c.if-all_hold.false))

pub returns-else-all_hold-clause-steady : goal.returns-else-all_hold-clause-steady
returns-else-all_hold-clause-steady g c =
    let b = standing g.D.Disk g.T.Told c.args.self.now c.args.out.now in
    let good = good_at (dataset_setting c.args.dataset.now) (g.D.Disk.len c.args.out.now.disk.now) b c.args.number c.in-Offer.call c.args.item c.in-Offer.offer c.args.dataset.now.sound c.requires.steady c.requires.number
    c.requires.own c.requires.fit c.in-Offer.is in
    steady_held c.args.dataset.now.header.now (g.D.Disk.len c.args.out.now.disk.now) b c.args.number c.in-Offer.call c.in-Offer.offer c.hold.new.self c.in-Meet.field-0 c.requires.steady good
    (held_now good c.index_mut-in-Meet.result.now c.hold.new.self c.index_mut-in-Meet.ensures.value c.hold.ensures) c.in-Meet.is

pub returns-in-Solo-clause-refused : goal.returns-in-Solo-clause-refused
returns-in-Solo-clause-refused g c =
    let b = standing g.D.Disk g.T.Told c.args.self.now c.args.out.now in
    let good = good_at (dataset_setting c.args.dataset.now) (g.D.Disk.len c.args.out.now.disk.now) b c.args.number c.in-Offer.call c.args.item c.in-Offer.offer c.args.dataset.now.sound c.requires.steady c.requires.number
    c.requires.own c.requires.fit c.in-Offer.is in
    on_err_weaker c.do_alone.result (λ h held single.
    arrival_alone (dataset_setting c.args.dataset.now) b c.args.number c.in-Offer.call c.do_alone.new.out.records.now c.args.item c.in-Offer.offer good.client (g.D.Disk.held c.do_alone.new.out.disk.now) c.in-Offer.is good.there
    c.in-Solo.is h) c.do_alone.ensures.refused

pub returns-then-all_hold-clause-refused : goal.returns-then-all_hold-clause-refused
returns-then-all_hold-clause-refused g c =
    let b = standing g.D.Disk g.T.Told c.args.self.now c.args.out.now in
    let good = good_at (dataset_setting c.args.dataset.now) (g.D.Disk.len c.args.out.now.disk.now) b c.args.number c.in-Offer.call c.args.item c.in-Offer.offer c.args.dataset.now.sound c.requires.steady c.requires.number
    c.requires.own c.requires.fit c.in-Offer.is in
    on_err_weaker c.do_together.result (λ h.
    arrival_together (dataset_setting c.args.dataset.now) b c.args.number c.in-Offer.call c.do_together.new.out.records.now c.args.item c.in-Offer.offer good.client c.hold.new.self c.in-Meet.field-0
    (g.D.Disk.held c.do_together.new.out.disk.now) c.in-Offer.is good.there
    (held_now good c.index_mut-in-Meet.result.now c.hold.new.self c.index_mut-in-Meet.ensures.value c.hold.ensures) c.in-Meet.is (ap (λ ss. list_all holds ss) (sym c.deref-in-Meet.ensures.value) ∙ sym c.all_hold.ensures ∙ c.if-all_hold.true) h) c.do_together.ensures.refused
