use Rattle.std.proofs.Common.{◌≡◌, ◌∙◌, Some, sym, ap, subst}
use Rattle.es_transcode.specs.CivilText.{IsMomentText}
use Rattle.es_transcode.proofs.TextsLemmas.{only-moment}
use Rattle.es_transcode.proofs.transcoding.DatetimeAsIsoTranscoding.decode.Goals as goal

pub returns-in-Some-clause-found : goal.returns-in-Some-clause-found
returns-in-Some-clause-found c = λ a is has.
    ap Some (only-moment c.in-Some.moment c.args.text.now (λ n low high text. let same : Some c.in-Some.moment ≡ Some n = sym c.in-Some.is ∙ c.in_ok-moment.ensures.found n low high (subst (IsMomentText n) (sym c.as_str.ensures) text) in cc) a is has)
