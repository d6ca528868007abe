use Rattle.std.proofs.Common.{length, Err}
use Rattle.std.proofs.lemmas.Str.Parse.{parse_digits}
use Rattle.std.specs.Str.Parse.{digits_value}
use Rattle.es_section.proofs.TextLemmas.{own, none-read}
use Rattle.es_section.proofs.request.value_of.Goals as goal

pub returns-in-Err-clause-value : goal.returns-in-Err-clause-value
returns-in-Err-clause-value c =
    let digits = c.args.digits.now in
    none-read (digits_value 10 digits) (length digits) c.requires.some (parse_digits own 64 digits (Err c.in-Err.field-0) c.in-Err.ensures.value.0 c.requires.digits)
