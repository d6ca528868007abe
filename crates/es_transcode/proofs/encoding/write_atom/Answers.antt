use Rattle.std.proofs.Common.{codes, refl}
use Rattle.es_model.specs.declared.value.Atom.TheVariants as atom
use Rattle.es_transcode.proofs.WritingLemmas.{tagged-as, moment-tree}
use Rattle.es_transcode.proofs.encoding.write_atom.Goals as goal

pub returns-in_ok-write_tagged-in-Uuid-clause-tokens : goal.returns-in_ok-write_tagged-in-Uuid-clause-tokens
returns-in_ok-write_tagged-in-Uuid-clause-tokens c =
    tagged-as (codes "uuid_hex") c.args.atom.now (atom.Uuid c.in-Uuid.field-0) c.as_str-in-Uuid.result.now c.in_ok-text-in-Uuid.text c.in-Uuid.is refl c.as_str-in-Uuid.ensures c.in_ok-text-in-Uuid.ensures c.in_ok-write_tagged-in-Uuid.ensures

pub returns-in_ok-write_tagged-in-Moment-clause-tokens : goal.returns-in_ok-write_tagged-in-Moment-clause-tokens
returns-in_ok-write_tagged-in-Moment-clause-tokens c =
    tagged-as (codes "datetime_iso") c.args.atom.now (atom.Moment c.in-Moment.field-0) c.as_str-in-Moment.result.now c.in_ok-text-in-Moment.text c.in-Moment.is refl c.as_str-in-Moment.ensures c.in_ok-text-in-Moment.ensures c.in_ok-write_tagged-in-Moment.ensures

pub returns-in_ok-write_tagged-in-Moment-clause-tree : goal.returns-in_ok-write_tagged-in-Moment-clause-tree
returns-in_ok-write_tagged-in-Moment-clause-tree c = moment-tree c.args.atom.now c.in-Moment.field-0 c.in_ok-text-in-Moment.text c.in-Moment.is c.in_ok-text-in-Moment.ensures

pub returns-in_ok-write_tagged-in-Decimal-clause-tokens : goal.returns-in_ok-write_tagged-in-Decimal-clause-tokens
returns-in_ok-write_tagged-in-Decimal-clause-tokens c =
    tagged-as (codes "decimal_str") c.args.atom.now (atom.Decimal c.in-Decimal.field-0) c.as_str-in-Decimal.result.now c.in_ok-text-in-Decimal.text c.in-Decimal.is refl c.as_str-in-Decimal.ensures c.in_ok-text-in-Decimal.ensures c.in_ok-write_tagged-in-Decimal.ensures
