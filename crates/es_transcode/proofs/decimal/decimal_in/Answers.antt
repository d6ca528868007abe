use Rattle.std.proofs.Common.{◌≡◌, ◌∙◌, length, drop, unsigned_abs, Some, arith, ap, sym, subst, FitsSigned, to_z, of_z, w64}
use Rattle.std.proofs.lemmas.Int.{to_z-of_z}
use Rattle.es_transcode.proofs.DecimalLemmas.{read-as, fits-small, made, scale-read, magnitude-read}
use Rattle.es_transcode.proofs.decimal.decimal_in.Goals as goal

pub returns-then-places-gt6 : goal.returns-then-places-gt6
returns-then-places-gt6 c = λ d fits few is.
    let back : c.places_of-places.result.now ≡ drop 1 (drop c.point_at.result c.unsigned-is_negative.result.1.now) = c.places_of-places.ensures ∙ ap (drop 1) c.split_at.ensures.back in
    let r = read-as d (fits-small d.digits fits) c.args.text.now c.unsigned-is_negative.result.1.now c.split_at.result.0.now c.places_of-places.result.now c.unsigned-is_negative.result.0 c.point_at.result is c.unsigned-is_negative.ensures c.point_at.ensures.value c.split_at.ensures.front back in
    let long : length c.places_of-places.result.now ≡ d.scale = scale-read d c.split_at.result.0.now c.places_of-places.result.now c.unsigned-is_negative.result.0 r in
    absurd (omega (arith, long, few))

pub returns-in-Some : goal.returns-in-Some
returns-in-Some c = λ d fits few is.
    let back : c.places_of-places.result.now ≡ drop 1 (drop c.point_at.result c.unsigned-is_negative.result.1.now) = c.places_of-places.ensures ∙ ap (drop 1) c.split_at.ensures.back in
    let r = read-as d (fits-small d.digits fits) c.args.text.now c.unsigned-is_negative.result.1.now c.split_at.result.0.now c.places_of-places.result.now c.unsigned-is_negative.result.0 c.point_at.result is c.unsigned-is_negative.ensures c.point_at.ensures.value c.split_at.ensures.front back in
    let long : length c.places_of-places.result.now ≡ d.scale = scale-read d c.split_at.result.0.now c.places_of-places.result.now c.unsigned-is_negative.result.0 r in
    let m : c.magnitude_of.result ≡ unsigned_abs d.digits = magnitude-read d c.split_at.result.0.now c.places_of-places.result.now c.unsigned-is_negative.result.0 c.magnitude_of.result fits r c.magnitude_of.ensures in
    let s : c.signed.result ≡ Some d.digits = c.signed.ensures d.digits fits m r.sign_is in
    let same : c.in-Some.digits ≡ d.digits = cc in
    let exact : to_z w64 (of_z w64 c.in-Some.digits) ≡ d.digits = to_z-of_z w64 c.in-Some.digits (subst (FitsSigned w64) (sym same) fits) ∙ same in
    made c.new.result d (to_z w64 (of_z w64 c.in-Some.digits)) (length c.places_of-places.result.now) (c.new.ensures.range.1 (omega (arith, long, few))) c.new.ensures.value exact long

pub returns-in-None : goal.returns-in-None
returns-in-None c = λ d fits few is.
    let back : c.places_of-places.result.now ≡ drop 1 (drop c.point_at.result c.unsigned-is_negative.result.1.now) = c.places_of-places.ensures ∙ ap (drop 1) c.split_at.ensures.back in
    let r = read-as d (fits-small d.digits fits) c.args.text.now c.unsigned-is_negative.result.1.now c.split_at.result.0.now c.places_of-places.result.now c.unsigned-is_negative.result.0 c.point_at.result is c.unsigned-is_negative.ensures c.point_at.ensures.value c.split_at.ensures.front back in
    let long : length c.places_of-places.result.now ≡ d.scale = scale-read d c.split_at.result.0.now c.places_of-places.result.now c.unsigned-is_negative.result.0 r in
    let m : c.magnitude_of.result ≡ unsigned_abs d.digits = magnitude-read d c.split_at.result.0.now c.places_of-places.result.now c.unsigned-is_negative.result.0 c.magnitude_of.result fits r c.magnitude_of.ensures in
    let s : c.signed.result ≡ Some d.digits = c.signed.ensures d.digits fits m r.sign_is in
    cc
