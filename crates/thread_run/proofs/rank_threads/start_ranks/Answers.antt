-- The threads are those of the inbox.
use Rattle.thread_run.proofs.Words.{rules, HasRooms}
use Rattle.thread_run.proofs.rank_threads.start_ranks.Goals as goal

pub returns : goal.returns
returns g c =
    let rooms : HasRooms c.args.run.now.script.now.ranks c.in-Ok.rooms = c.in-Ok.ensures in
    record {
      measured = c.measures.ensures;
      of = c.start_all.ensures.of;
      handles = c.start_all.ensures.handles _ rooms.of_inbox;
      all = search rules;
      empty = c.start_all.ensures.empty;
      taken = rooms.taken;
      senders = rooms.senders;
      none = rooms.no_ends;
      room = rooms.ends_room;
    }
