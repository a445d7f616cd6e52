-- The step of one rank, by its puts and its gets.
use Rattle.turn_run.proofs.Words.{◌∙◌, ap, max, setting, puts_of, told, done_torn, on_err}
use Rattle.turn_run.proofs.CountLaws.{count_begins, count_longer}
use Rattle.turn_run.proofs.MeetPosts.{get_of, needed_solo, put_of, ranked_puts, solo_count}
use Rattle.turn_run.proofs.MeetSolo.{solo_called, solo_replied}
use Rattle.turn_run.proofs.solo.solo_reply.Goals as goal

pub put_solo-requires-clause-puts : goal.put_solo-requires-clause-puts
put_solo-requires-clause-puts g c κs within =
    ranked_puts c.args.dataset.now.header.now c.args.number c.args.offer.now.batch.puts (put_of c.args.dataset.now.header.now c.args.offer.now c.requires.fit.sound)

pub put_solo-requires-clause-own : goal.put_solo-requires-clause-own
put_solo-requires-clause-own g c κs within = c.requires.fit.sound.own c.args.number

pub put_solo-requires-clause-long : goal.put_solo-requires-clause-long
put_solo-requires-clause-long g c κs within = count_begins c.args.dataset.now.header.now _ c.args.offer.now.known c.requires.fit.known

pub get_solo-requires-clause-gets : goal.get_solo-requires-clause-gets
get_solo-requires-clause-gets g c κs within =
    get_of c.args.dataset.now.header.now _ c.args.offer.now c.requires.fit.sound (count_longer c.args.dataset.now.header.now _ _ c.args.offer.now.known c.in_ok-end.ensures.grown c.requires.fit.known)

pub returns-clause-reply : goal.returns-clause-reply
returns-clause-reply g c =
    solo_replied (setting c.args.dataset.now.header.now c.args.dataset.now.hints.now) c.args.number c.records_known.result c.args.offer.now c.in_ok-end.end c.told_pair.result _ _ c.in_ok-got.got
    c.in_ok-end.ensures.told c.told_pair.ensures c.records_known.ensures c.in_ok-end.ensures.bytes c.in_ok-got.ensures.got

pub returns-clause-calls : goal.returns-clause-calls
returns-clause-calls g c =
    solo_called c.args.dataset.now.hints.now (setting c.args.dataset.now.header.now c.args.dataset.now.hints.now) c.args.number (g.D.Disk.len c.args.disk.now) c.args.offer.now (g.D.Disk.held c.args.disk.now) _ _ _
    (g.D.Disk.told c.args.disk.now) c.in_ok-end.ensures.calls c.in_ok-got.ensures.calls

pub returns-clause-count : goal.returns-clause-count
returns-clause-count g c =
    solo_count (setting c.args.dataset.now.header.now c.args.dataset.now.hints.now) c.args.number _ _ _ c.records_known.result c.args.offer.now c.in_ok-end.end c.args.dataset.now.sound c.requires.fit.sound
    c.requires.fit.known c.in_ok-end.ensures.grown c.in_ok-got.ensures.len c.in_ok-end.ensures.told c.in_ok-end.ensures.long c.records_known.ensures

pub returns-clause-told : goal.returns-clause-told
returns-clause-told g c = c.told_pair.ensures ∙ c.in_ok-end.ensures.told

pub returns-clause-records : goal.returns-clause-records
returns-clause-records g c = c.records_known.ensures
    ∙ ap (max c.args.offer.now.known) (needed_solo (setting c.args.dataset.now.header.now c.args.dataset.now.hints.now) c.args.number c.args.offer.now.batch.puts c.in_ok-end.end c.in_ok-end.ensures.told)

pub returns-in_err-end-clause-refused : goal.returns-in_err-end-clause-refused
returns-in_err-end-clause-refused g c = on_err _ c.in_err-end.ensures.refused

pub returns-in_err-got-clause-refused : goal.returns-in_err-got-clause-refused
returns-in_err-got-clause-refused g c =
    let s = setting c.args.dataset.now.header.now c.args.dataset.now.hints.now in
    on_err _ (done_torn s (puts_of (c.args.number, c.args.offer.now)) (told s (puts_of (c.args.number, c.args.offer.now))) (g.D.Disk.held c.args.disk.now) (g.D.Disk.held c.get_solo.new.disk)
    (c.in_err-got.ensures.bytes ∙ c.in_ok-end.ensures.bytes))
