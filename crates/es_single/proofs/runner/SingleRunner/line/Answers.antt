use Rattle.es_process.specs.SystemRules.{rules_of}
use Rattle.es_process.specs.Terms.{terms}
use Rattle.es_single.proofs.AnswerLemmas.{word_answered}
use Rattle.es_single.proofs.runner.SingleRunner.line.Goals as goal

pub returns-in-None-clause-answered : goal.returns-in-None-clause-answered
returns-in-None-clause-answered g c = λ after may.
    (after, may, λ base options s line u asked held. word_answered (terms (rules_of c.args.self.now.sys) options) s c.args.request.now c.word_reply.result _ c.word_reply.ensures held)
