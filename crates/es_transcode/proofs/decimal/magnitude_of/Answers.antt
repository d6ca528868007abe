use Rattle.std.proofs.Common.{◌∙◌, ◌<◌, ◌+◌, ◌/◌, ◌%◌, ◌*◌, ◌^◌, length, arith, ap}
use Rattle.es_transcode.proofs.DecimalLemmas.{whole-read, remade, quotient-small, unit-some}
use Rattle.es_transcode.proofs.decimal.magnitude_of.Goals as goal

pub returns : goal.returns
returns c = λ n small w p.
    let some : 0 < 10 ^ length c.args.places.now = unit-some (length c.args.places.now) in
    let over : n % 10 ^ length c.args.places.now < 10 ^ length c.args.places.now = omega (arith, some) in
    let most : n % 10 ^ length c.args.places.now < 18446744073709551616 = grind (arith, some) in
    ap (λ u. (c.number_of.result * u % 18446744073709551616 + c.number_of-2.result) % 18446744073709551616) c.unit_of.ensures.unit
    ∙ remade n (10 ^ length c.args.places.now) c.number_of.result c.number_of-2.result small some
    (whole-read c.args.whole.now c.number_of.result (n / 10 ^ length c.args.places.now) (quotient-small n (10 ^ length c.args.places.now) small some) w c.number_of.ensures)
    (c.number_of-2.ensures (n % 10 ^ length c.args.places.now) most over p)
