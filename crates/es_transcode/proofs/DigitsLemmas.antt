-- Laws of numbers with so many digits.
use Rattle.std.proofs.Common.{◌≡◌, ◌<◌, ◌+◌, ◌*◌, ◌/◌, ◌%◌, ◌^◌, ℕ, zero, suc, List, [], ◌∷◌, length, take, get_or, refl, sym, ap, subst, ◌∙◌, arith, length-append, length-take}
use Rattle.std.proofs.Math.Seq.{take-append_seam, get_or-append_seam}
use Rattle.es_transcode.specs.Padded.{padded}

pub length-padded : (k n : ℕ) → length (padded k n) ≡ k
length-padded zero n = refl
length-padded (suc k) n = omega (arith, length-append (padded k (n / 10)) ((48 + n % 10) ∷ []), length-padded k (n / 10))

pub front : (k n : ℕ) (ds : List ℕ) → ds ≡ padded (suc k) n → take k ds ≡ padded k (n / 10)
front k n ds is = ap (take k) is ∙ subst (λ j. take j (padded (suc k) n) ≡ padded k (n / 10)) (length-padded k (n / 10)) (take-append_seam (padded k (n / 10)) ((48 + n % 10) ∷ []))

pub last : (k n : ℕ) (ds : List ℕ) → ds ≡ padded (suc k) n → get_or ds k 0 ≡ 48 + n % 10
last k n ds is = ap (λ zs. get_or zs k 0) is ∙ subst (λ j. get_or (padded (suc k) n) j 0 ≡ 48 + n % 10) (length-padded k (n / 10)) (get_or-append_seam (padded k (n / 10)) (48 + n % 10) [] 0)

joined : (n r d : ℕ) → n < 18446744073709551616 → r ≡ n / 10 → d ≡ 48 + n % 10 → (r * 10 % 18446744073709551616 + (d + 208) % 256) % 18446744073709551616 ≡ n
joined n r d few is ds = grind (arith)

pub step : (k n r : ℕ) (ds : List ℕ) → ds ≡ padded (suc k) n → n < 18446744073709551616 → n < 10 ^ suc k → ((m : ℕ) → m < 18446744073709551616 → m < 10 ^ k → take k ds ≡ padded k m → r ≡ m)
    → (r * 10 % 18446744073709551616 + (get_or ds k 0 + 208) % 256) % 18446744073709551616 ≡ n
step k n r ds is few small ih =
    joined n r (get_or ds k 0) few (ih (n / 10) (omega arith) (grind arith) (front k n ds is)) (last k n ds is)

pub number_step : (k r : ℕ) (ds front : List ℕ) → length ds ≡ suc k → front ≡ take k ds → ((m : ℕ) → m < 18446744073709551616 → m < 10 ^ length front → front ≡ padded (length front) m → r ≡ m)
    → (n : ℕ) → n < 18446744073709551616 → n < 10 ^ length ds → ds ≡ padded (length ds) n → (r * 10 % 18446744073709551616 + (get_or ds k 0 + 208) % 256) % 18446744073709551616 ≡ n
number_step k r ds front long is ih n few small digits =
    let shorter : length front ≡ k = grind (arith, is, long, length-take k ds) in
    step k n r ds (subst (λ j. ds ≡ padded j n) long digits) few (subst (λ j. n < 10 ^ j) long small)
    (λ m f s e. ih m f (subst (λ j. m < 10 ^ j) (sym shorter) s) (is ∙ e ∙ ap (λ j. padded j m) (sym shorter)))
