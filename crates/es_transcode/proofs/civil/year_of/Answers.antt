use Rattle.std.proofs.Common.{◌≤ℤ◌, ◌∙◌, pos, FitsSigned, w16, rules, subst, sym}
use Rattle.std.proofs.lemmas.Int.{to_z-of_z}
use Rattle.es_transcode.proofs.DateLemmas.{year-from_1970, cast-year, year-is}
use Rattle.es_transcode.proofs.civil.year_of.Goals as goal

pub overflow_cast-result : goal.overflow_cast-result
overflow_cast-result c =
    let late : pos 1970 ≤ℤ c.year.result = subst (λ z. pos 1970 ≤ℤ z) (sym c.year.ensures) (year-from_1970 c.args.date c.requires) in
    let fits : FitsSigned w16 c.year.result = search rules in
    rw (to_z-of_z w16 c.year.result fits) (cast-year c.year.result late c.year.type_inv)

pub returns : goal.returns
returns c =
    let late : pos 1970 ≤ℤ c.year.result = subst (λ z. pos 1970 ≤ℤ z) (sym c.year.ensures) (year-from_1970 c.args.date c.requires) in
    let fits : FitsSigned w16 c.year.result = search rules in
    rw (to_z-of_z w16 c.year.result fits) (year-is c.year.result late ∙ c.year.ensures)
