-- A result has one value, or one error.
use Rattle.std.proofs.Common.{◌≡◌, Result, Ok, Err, refl}
use Rattle.command_core.specs.ReplyFields.{NamedFault}
use Rattle.command_core.specs.Outcomes.{◌>>=◌}

pub ok_same : {A E : Type 0} (x y : A) → ◌≡◌ {A = Result A E} (Ok x) (Ok y) → x ≡ y
ok_same {A} {E} x y h = cc

pub err_same : {A E : Type 0} (x y : E) → ◌≡◌ {A = Result A E} (Err x) (Err y) → x ≡ y
err_same {A} {E} x y h = cc

pub not_ok : {A E : Type 0} (x : A) (e : E) → ◌≡◌ {A = Result A E} (Err e) (Ok x) → ⊥
not_ok {A} {E} x e h = cc

pub not_err : {A E : Type 0} (x : A) (e : E) → ◌≡◌ {A = Result A E} (Ok x) (Err e) → ⊥
not_err {A} {E} x e h = cc

-- a value that follows another
pub after_ok : {A B : Type 0} (r : Result A NamedFault) (next : A → Result B NamedFault) (b : B) → Ok b ≡ (r >>= next) → (x : A) × (r ≡ Ok x) × (Ok b ≡ next x)
after_ok (Ok x) next b h = (x, refl, h)
after_ok (Err e) next b h = absurd (not_err b e h)
