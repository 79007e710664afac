-- What is read has version 1, and a text that begins with version 1 has no other version.
use Rattle.std.proofs.Common.{◌≡◌, ℕ, ◌++◌, List, Bool, true, false, refl, sym, subst}
use Rattle.std.specs.Prelude.{IsTrue, ◌==◌, ◌&&◌, None}
use Rattle.std.specs.Int.{w16, to_le_bytes}
use Rattle.std.proofs.lemmas.Bool.{eqb-true}
use Rattle.dmn_payloads.specs.Fault.{other_version}
use Rattle.dmn_payloads.specs.Payloads.{version_one, pro_reg, up_serv, up_reg, revoke, cb}
use Rattle.dmn_payloads.specs.declared.payloads.ProReg.{ProReg}
use Rattle.dmn_payloads.specs.declared.payloads.UpServ.{UpServ}
use Rattle.dmn_payloads.specs.declared.payloads.UpReg.{UpReg}
use Rattle.dmn_payloads.specs.declared.payloads.Revoke.{Revoke}
use Rattle.dmn_payloads.specs.declared.payloads.CbTx.{CbTx}

and_false : (b : Bool) → (b && false) ≡ false
and_false true = refl
and_false false = refl

version_1 : (rest : List ℕ) → other_version (to_le_bytes w16 1 ++ rest) ≡ None
version_1 rest = rw and_false refl

pub one_version : (n : ℕ) (rest : List ℕ) → IsTrue (n == 1) → other_version (to_le_bytes w16 n ++ rest) ≡ None
one_version n rest is = subst (λ (m : ℕ). other_version (to_le_bytes w16 m ++ rest) ≡ None) (sym (eqb-true n 1 is)) (version_1 rest)

pub pro_reg_version : (v : ProReg) → pro_reg.Fits v → v.version ≡ 1
unfolding pro_reg version_one
pro_reg_version v fits = eqb-true v.version 1 fits.0.1

pub up_serv_version : (v : UpServ) → up_serv.Fits v → v.version ≡ 1
unfolding up_serv version_one
up_serv_version v fits = eqb-true v.version 1 fits.0.1

pub up_reg_version : (v : UpReg) → up_reg.Fits v → v.version ≡ 1
unfolding up_reg version_one
up_reg_version v fits = eqb-true v.version 1 fits.0.1

pub revoke_version : (v : Revoke) → revoke.Fits v → v.version ≡ 1
unfolding revoke version_one
revoke_version v fits = eqb-true v.version 1 fits.0.1

pub cb_version : (v : CbTx) → cb.Fits v → v.version ≡ 1
unfolding cb version_one
cb_version v fits = eqb-true v.version 1 fits.0.1
