-- `value::making::make_set` meets its contract. Assumes nothing.
use Rattle.value.proofs.Fills.{first_room, first_on, set_made}
use Rattle.forms.specs.Tags.{SET_VALUE}
use borrow.Author.Rules.{rules}
use Rattle.value.proofs.making.make_set.Goals as goal

pub ascending-e-requires : goal.ascending-e-requires
ascending-e-requires c = let p = c in
    let s = p in
    record { room = first_room s.args.log.now s.args.top s.requires SET_VALUE p.push-q.new.words p.push-q.result p.push-q.ensures; top_le_at = first_on s.args.log.now s.args.top s.requires SET_VALUE p.push-q.new.words p.push-q.result p.push-q.ensures }

pub returns : goal.returns
returns c = search (set_made, rules)
