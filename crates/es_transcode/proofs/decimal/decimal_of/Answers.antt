use Rattle.std.proofs.Common.{◌≤◌, length, subst, sym, arith}
use Rattle.es_transcode.proofs.DecimalLemmas.{decimal_text-short}
use Rattle.es_transcode.proofs.decimal.decimal_of.Goals as goal

pub returns-then-text-gt-LONGEST-clause-found : goal.returns-then-text-gt-LONGEST-clause-found
returns-then-text-gt-LONGEST-clause-found c = λ d fits few is.
    let short : length c.args.text.now ≤ 28 = subst (λ t. length t ≤ 28) (sym is) (decimal_text-short d fits few) in
    absurd (omega arith)
