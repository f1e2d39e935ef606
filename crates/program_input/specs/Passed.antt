-- What a program writes of the first bytes of an input that it read (`wrote_of`).
use Rattle.std.specs.Prelude.{◌≡◌, ℕ, List, take, Option, None, Some, IfSome, OnOk, Result, Ok, Err}
use Rattle.std.proofs.Common.{ap, subst, ◌∙◌}
use Rattle.std.specs.Io.KnownBytes.{Appends}

-- the text of the bytes that were read is that of the input's first k bytes, where the buffer had k places
of_known : (known old new : Option (List ℕ)) (f : List ℕ → List ℕ) (got text : List ℕ) (m k : ℕ) → m ≡ k
    → IfSome known (λ bytes. got ≡ take m bytes) → text ≡ f got → Appends old new text
    → IfSome known (λ bytes. Appends old new (f (take k bytes)))
of_known None old new f got text m k long read is wrote = tt
of_known (Some bytes) old new f got text m k long read is wrote =
    subst (Appends old new) (is ∙ ap f (read ∙ ap (λ j. take j bytes) long)) wrote

pub wrote_of : {T E : Type 0} (r : Result T E) (known old new : Option (List ℕ)) (f : List ℕ → List ℕ)
    (got text : List ℕ) (m k : ℕ) → m ≡ k → IfSome known (λ bytes. got ≡ take m bytes) → text ≡ f got
    → OnOk r (Appends old new text) → OnOk r (IfSome known (λ bytes. Appends old new (f (take k bytes))))
wrote_of (Ok x) known old new f got text m k long read is wrote =
    of_known known old new f got text m k long read is wrote
wrote_of (Err e) known old new f got text m k long read is wrote = tt
