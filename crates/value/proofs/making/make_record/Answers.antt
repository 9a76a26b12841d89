-- `value::making::make_record` meets its contract. Assumes nothing.
use Rattle.value.proofs.Fills.{first_room, first_on, record_made}
use Rattle.forms.specs.Tags.{RECORD_VALUE}
use borrow.Author.Rules.{rules}
use Rattle.value.proofs.making.make_record.Goals as goal

pub paired-e-requires : goal.paired-e-requires
paired-e-requires c = let p = c in
    let s = p in
    record { room = first_room s.args.log.now s.args.top s.requires.room RECORD_VALUE p.push-q.new.words p.push-q.result p.push-q.ensures; start_le_top = (s.requires.start_le_top, first_on s.args.log.now s.args.top s.requires.room RECORD_VALUE p.push-q.new.words p.push-q.result p.push-q.ensures) }

pub returns : goal.returns
returns c = search (record_made, rules)
