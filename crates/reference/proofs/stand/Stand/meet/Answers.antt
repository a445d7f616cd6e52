-- The ranks hold their offers, and hear the replies to them.
use Rattle.reference.proofs.Words.{◌∙◌, sym, ap, subst, List, arith, with_items_is, on_ok_weaker, Offer, meeting, offers_of, counted, setting, all_arrived, AllHear, AreWaiting, HaveHeard, Runner, replies_long, nat_tests}
use Rattle.reference.proofs.StepLaws.{have_heard, meeting_low, meeting_step, offered_in, offers_long, replies_fit}
use Rattle.reference.proofs.stand.Stand.meet.Goals as goal

pub meeting-requires : goal.meeting-requires
meeting-requires c =
    let runners = c.args.self.now.runners.items in
    grind (arith, nat_tests, offers_long c.args.header.now runners c.requires.waiting, offered_in c.args.header.now runners, c.deref-2.ensures.value, c.in_ok-offers.ensures, c.deref.ensures.value, c.requires.ranks, c.requires.sound)

pub hear_all-requires : goal.hear_all-requires
hear_all-requires c =
    let s = setting c.args.header.now c.args.overlap in
    let runners = c.args.self.now.runners.items in
    let before = counted c.args.self.now.file.items c.args.self.now.records in
    let same = c.deref-2.ensures.value ∙ c.in_ok-offers.ensures ∙ ap (λ (xs : List Runner). offers_of (all_arrived xs)) c.deref.ensures.value in
    let said = c.as_slice.ensures ∙ c.in_ok-replies.ensures.replies ∙ ap (λ (os : List Offer). (meeting s os before).1) same in
    record {
      long = grind (arith, nat_tests, replies_long s (offers_of (all_arrived runners)) before, offers_long c.args.header.now runners c.requires.waiting, c.deref_mut.ensures.value);
      waiting = subst (λ (xs : List Runner). AreWaiting c.args.header.now xs) (sym c.deref_mut.ensures.value) c.requires.waiting;
      fit = grind (arith, nat_tests, replies_fit s runners before c.as_slice.result.now c.requires.waiting said, c.deref_mut.ensures.value);
    }

pub returns : goal.returns
returns c =
    let s = setting c.args.header.now c.args.overlap in
    let old = c.args.self.now in
    let before = counted old.file.items old.records in
    let now = c.hear_all.new.runners in
    let same = c.deref-2.ensures.value ∙ c.in_ok-offers.ensures ∙ ap (λ (xs : List Runner). offers_of (all_arrived xs)) c.deref.ensures.value in
    let said = c.as_slice.ensures ∙ c.in_ok-replies.ensures.replies ∙ ap (λ (os : List Offer). (meeting s os before).1) same in
    let records = c.in_ok-replies.ensures.records ∙ ap (λ (os : List Offer). (meeting s os before).0.records) same in
    record {
      step = on_ok_weaker c.hear_all.result (λ (heard : AllHear c.args.header.now c.as_slice.result.now c.deref_mut.result.now now). λ k.
          let all = subst (λ (xs : List Runner). AllHear c.args.header.now c.as_slice.result.now xs now) c.deref_mut.ensures.value heard in
          ap (λ (xs : List Runner). (counted c.meeting.new.file.items c.meeting.new.records, all_arrived xs)) (with_items_is old.runners now (heard.long ∙ c.deref_mut.ensures.len))
          ∙ meeting_step s old.runners.items now c.as_slice.result.now old.file.items c.meeting.new.file.items old.records c.meeting.new.records k c.requires.waiting
          (c.in_ok-replies.ensures.file ∙ ap (λ (os : List Offer). (meeting s os before).0.file) same) records said all) c.hear_all.ensures.heard;
      heard = on_ok_weaker c.hear_all.result (λ (heard : AllHear c.args.header.now c.as_slice.result.now c.deref_mut.result.now now).
          let all = subst (λ (xs : List Runner). AllHear c.args.header.now c.as_slice.result.now xs now) c.deref_mut.ensures.value heard in
          subst (λ (xs : List Runner). HaveHeard c.args.header.now old.runners.items xs) (sym (with_items_is old.runners now (heard.long ∙ c.deref_mut.ensures.len)))
          (have_heard s old.runners.items now c.as_slice.result.now before c.requires.waiting c.requires.records said all)) c.hear_all.ensures.heard;
      records = grind (arith, nat_tests, meeting_low s (offers_of (all_arrived old.runners.items)) before c.requires.records, offered_in c.args.header.now old.runners.items, c.requires.waiting, c.hear_all.ensures.heard);
    }
