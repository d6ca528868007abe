use Rattle.std.proofs.Common.{◌∙◌, ap}
use Rattle.es_decl.specs.Pairs.{gathered, is_pair, neighbours}
use Rattle.es_decl.proofs.PairLemmas.{pipe-step}
use Rattle.es_decl.proofs.pipes.pairs.Goals as goal

pub loop-pipe-preserved : goal.loop-pipe-preserved
loop-pipe-preserved c =
    pipe-step c.as_slice-pipe-items.result.now c.loop-pipe.pipe-index c.pipe-item.result c.loop-pipe.pairs c.add_neighbours.new.pairs c.loop-pipe-test.true c.pipe-item.is c.loop-pipe.invariant
    (c.in_ok-add_neighbours.ensures ∙ ap (λ ns. gathered is_pair c.loop-pipe.pairs (neighbours ns)) c.as_slice.ensures)
