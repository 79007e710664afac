-- How long a text is that was counted.
use Rattle.std.proofs.Common.{◌≡◌, ℕ, false, List, length, Result, Ok, Err, ◌∙◌}
use Rattle.std.specs.Prelude.{IfOk}
use Rattle.dmn_bytes.specs.declared.fault.Memory.{Memory}
use Rattle.dmn_held.specs.declared.counter.Counter.{Counter}

pub is_length : (r : Result ℕ Memory) (c : Counter) (text : List ℕ) → (c.full ≡ false → c.count ≡ length text) → IfOk r (λ n. (c.full ≡ false) × (n ≡ c.count)) → IfOk r (λ n. n ≡ length text)
is_length (Ok n) c text holds total = total.1 ∙ holds total.0
is_length (Err e) c text holds total = tt
