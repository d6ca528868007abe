use Rattle.es_process.proofs.PairingLemmas.{follower_declared, is_pair_of, leader_declared}
use Rattle.es_process.proofs.pairs.pair_of.Goals as goal

pub place_of-requires : goal.place_of-requires
place_of-requires c = leader_declared c.args.sys.now c.args.leader.now c.args.follower.now c.requires.checked c.requires.pair c.as_slice.result.now c.as_slice.ensures

pub place_of-requires-2 : goal.place_of-requires-2
place_of-requires-2 c = follower_declared c.args.sys.now c.args.leader.now c.args.follower.now c.requires.checked c.requires.pair c.as_slice-2.result.now c.as_slice-2.ensures

pub returns-clause-placed : goal.returns-clause-placed
returns-clause-placed c =
    is_pair_of c.args.sys.now c.args.leader.now c.args.follower.now c.requires.checked c.requires.pair _ c.as_slice.result.now c.as_slice-2.result.now c.args.leaders.now (c.in_ok-leader_name.ensures {u = tt}) (c.in_ok-follower_name.ensures {u = tt})
    c.as_slice.ensures c.as_slice-2.ensures c.place_of.ensures c.place_of-2.ensures c.is_among.ensures c.requires.leaders
