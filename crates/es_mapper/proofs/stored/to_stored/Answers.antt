use Rattle.std.proofs.Common.{rules, subst}
use Rattle.es_model.specs.Values.{Record}
use Rattle.es_transcode.specs.RecordText.{IsRecordText}
use Rattle.es_mapper.proofs.MappingLemmas.{stored-event}
use Rattle.es_mapper.proofs.stored.to_stored.Goals as goal

pub returns-clause-back : goal.returns-clause-back
returns-clause-back c = λ d.
    stored-event c.args.sys.now c.args.event.now _ d record {
      originator_id = search rules;
      originator_version = search rules;
      topic = c.in_ok-copy.ensures;
      state = subst (λ (r : Record). IsRecordText r c.in_ok-encode_record.field-0) c.in_ok-state.ensures c.in_ok-encode_record.ensures.record;
    }
