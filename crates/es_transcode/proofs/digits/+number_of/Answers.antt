use Rattle.std.proofs.Common.{◌≡◌, ◌-◌, suc, length, take, refl, arith}
use Rattle.es_transcode.proofs.DigitsLemmas.{number_step}
use Rattle.es_transcode.proofs.digits.+number_of.Goals as goal

pub returns-in-len1-up : goal.returns-in-len1-up
returns-in-len1-up t c =
    let long : length c.args.digits.now ≡ suc (length c.args.digits.now - 1) = omega (arith, c.in-len1-up.len_at_least) in
    number_step (length c.args.digits.now - 1) c.number_of.result c.args.digits.now (take (length c.args.digits.now - 1) c.args.digits.now) long refl c.number_of.ensures
