use Rattle.cs_model.proofs.spelling.SaidLaws.{now_front, still_front, front_of_front}
use Rattle.cs_model.proofs.canonical.add_change.Goals as goal

pub returns-in-Update-clause-adds : goal.returns-in-Update-clause-adds
returns-in-Update-clause-adds c =
    let op = now_front c.args.out.now.items c.push.new.self.items _ c.in_ok-push.ensures.items in
    let both = still_front c.args.out.now.items c.push.new.self.items c.push-2.new.self.items _ op
    c.in_ok-push-2.ensures.items in
    let first = still_front c.args.out.now.items c.push-2.new.self.items c.add_fields.new.out.items _ both
    c.in_ok-rest.ensures.ok in
    front_of_front c.args.out.now.items c.add_fields.new.out.items c.add_fields-in-Update.new.out.items first
    c.add_fields-in-Update.ensures.adds
