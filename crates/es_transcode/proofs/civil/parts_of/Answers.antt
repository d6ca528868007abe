use Rattle.std.proofs.Common.{◌≡◌, sym, Some, subst}
use Rattle.es_transcode.proofs.CivilLemmas.{year, month, day, hour, minute, second, micros, IsRead}
use Rattle.es_transcode.proofs.civil.parts_of.Goals.{then-text-eq32, else-text-eq32}
use Rattle.es_transcode.proofs.civil.parts_of.Goals as goal

pub returns : goal.returns
returns c = λ a civil is.
    let t = c.args.text.now in
    let u : c.if-text-eq32.micros ≡ a.micros = elim c.if-text-eq32.branch [
      | then-text-eq32 w ↦ micros t a civil is c.if-text-eq32.micros (λ _. subst (IsRead _) (sym w.micros-is) w.number_of-micros.ensures) (λ h. absurd (h w.if-text-eq32.true))
      | else-text-eq32 w ↦ micros t a civil is c.if-text-eq32.micros (λ h. absurd (w.if-text-eq32.false h)) (λ _. w.micros-is)
    ] in
    λ i. Some record {
      year = year t a civil is c.number_of.result c.number_of.ensures i;
      month = month t a civil is c.number_of-2.result c.number_of-2.ensures i;
      day = day t a civil is c.number_of-3.result c.number_of-3.ensures i;
      hour = hour t a civil is c.number_of-4.result c.number_of-4.ensures i;
      minute = minute t a civil is c.number_of-5.result c.number_of-5.ensures i;
      second = second t a civil is c.number_of-6.result c.number_of-6.ensures i;
      micros = u i;
    }
