use Rattle.std.proofs.Common.{Some, sym, subst}
use Rattle.es_lines.specs.Requests.{asked_of}
use Rattle.es_lines.specs.declared.request.Request.TheVariants as request
use Rattle.es_lines.specs.inner.Parts.{Tests}
use Rattle.es_lines.proofs.reading.test.Goals as goal

pub returns-in-Get : goal.returns-in-Get
returns-in-Get c =
    subst (λ q. Tests (asked_of c.args.sys.now (Some q)) q c.test_app.result) (sym c.in-Get.is) (c.test_app.ensures (request.Get c.in-Get.app c.in-Get.id c.in-Get.version))

pub returns-in-Log : goal.returns-in-Log
returns-in-Log c =
    subst (λ q. Tests (asked_of c.args.sys.now (Some q)) q c.test_app-in-Log.result) (sym c.in-Log.is) (c.test_app-in-Log.ensures (request.Log c.in-Log.app c.in-Log.section))

pub returns-in-Snapshot : goal.returns-in-Snapshot
returns-in-Snapshot c =
    subst (λ q. Tests (asked_of c.args.sys.now (Some q)) q c.test_app-in-Snapshot.result) (sym c.in-Snapshot.is) (c.test_app-in-Snapshot.ensures (request.Snapshot c.in-Snapshot.app c.in-Snapshot.id))

pub returns-in-Tracking : goal.returns-in-Tracking
returns-in-Tracking c = subst (λ q. Tests (asked_of c.args.sys.now (Some q)) q c.test_leader.result) (sym c.in-Tracking.is) c.test_leader.ensures
