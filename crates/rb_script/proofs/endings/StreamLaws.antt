-- Known bytes over several reads and writes.
use Rattle.std.proofs.Common.{◌≡◌, ℕ, ◌+◌, ◌-◌, List, [], ◌++◌, length, take, drop, Option, Some, None, Result, Ok, Err}
use Rattle.std.proofs.Common.{OnErr, refl, sym, ap, subst, ◌∙◌, append_assoc, length-drop, take-append-drop}
use Rattle.std.proofs.Math.Seq.{take-add, take-length}
use Rattle.std.proofs.lemmas.List.{append-nil}
use Rattle.std.specs.Io.KnownBytes.{Appends, Consumes, Keeps}
use Rattle.rb_script.specs.Streams.{AppendsFront}

pub Keeps-refl : (a : Option (List ℕ)) → Keeps a a
Keeps-refl None = tt
Keeps-refl (Some xs) = refl

pub Keeps-trans : (a b c : Option (List ℕ)) → Keeps a b → Keeps b c → Keeps a c
Keeps-trans None b c p q = tt
Keeps-trans (Some xs) None c p q = absurd p
Keeps-trans (Some xs) (Some ys) None p q = absurd q
Keeps-trans (Some xs) (Some ys) (Some zs) p q = q ∙ p

pub Keeps-Consumes : (a b c : Option (List ℕ)) (bs : List ℕ) → Keeps a b → Consumes b c bs → Consumes a c bs
Keeps-Consumes None b c bs p q = tt
Keeps-Consumes (Some xs) None c bs p q = absurd p
Keeps-Consumes (Some xs) (Some ys) None bs p q = absurd q
Keeps-Consumes (Some xs) (Some ys) (Some zs) bs p q = sym p ∙ q

pub Keeps-Appends : (a b c : Option (List ℕ)) (bs : List ℕ) → Keeps a b → Appends b c bs → Appends a c bs
Keeps-Appends None b c bs p q = tt
Keeps-Appends (Some xs) None c bs p q = absurd p
Keeps-Appends (Some xs) (Some ys) None bs p q = absurd q
Keeps-Appends (Some xs) (Some ys) (Some zs) bs p q = q ∙ ap (λ (w : List ℕ). w ++ bs) p

pub Appends-Keeps : (a b c : Option (List ℕ)) (bs : List ℕ) → Appends a b bs → Keeps b c → Appends a c bs
Appends-Keeps None b c bs p q = tt
Appends-Keeps (Some xs) None c bs p q = absurd p
Appends-Keeps (Some xs) (Some ys) None bs p q = absurd q
Appends-Keeps (Some xs) (Some ys) (Some zs) bs p q = q ∙ p

pub Appends-none : (a : Option (List ℕ)) → Appends a a []
Appends-none None = tt
Appends-none (Some xs) = sym (append-nil xs)

pub Appends-trans : (a b c : Option (List ℕ)) (xs ys : List ℕ) → Appends a b xs → Appends b c ys
    → Appends a c (xs ++ ys)
Appends-trans None b c xs ys p q = tt
Appends-trans (Some us) None c xs ys p q = absurd p
Appends-trans (Some us) (Some bs) None xs ys p q = absurd q
Appends-trans (Some us) (Some bs) (Some cs) xs ys p q = q ∙ ap (λ (w : List ℕ). w ++ ys) p ∙ append_assoc us xs ys

pub Consumes-trans : (a b c : Option (List ℕ)) (xs ys : List ℕ) → Consumes a b xs → Consumes b c ys
    → Consumes a c (xs ++ ys)
Consumes-trans None b c xs ys p q = tt
Consumes-trans (Some us) None c xs ys p q = absurd p
Consumes-trans (Some us) (Some bs) None xs ys p q = absurd q
Consumes-trans (Some us) (Some bs) (Some cs) xs ys p q = p ∙ ap (λ (w : List ℕ). xs ++ w) q
    ∙ sym (append_assoc xs ys cs)

pub Consumes-none : (a : Option (List ℕ)) → Consumes a a []
Consumes-none None = tt
Consumes-none (Some xs) = refl

pub Consumes-Keeps : (a b c : Option (List ℕ)) (xs : List ℕ) → Consumes a b xs → Keeps b c → Consumes a c xs
Consumes-Keeps None b c xs p q = tt
Consumes-Keeps (Some us) None c xs p q = absurd p
Consumes-Keeps (Some us) (Some bs) None xs p q = absurd q
Consumes-Keeps (Some us) (Some bs) (Some cs) xs p q = p ∙ ap (λ (w : List ℕ). xs ++ w) (sym q)

pub ruleset known_bytes = (
  Keeps-refl,
  Keeps-trans,
  Keeps-Consumes,
  Keeps-Appends,
  Appends-Keeps,
  Appends-none,
  Appends-trans,
  Consumes-trans,
  Consumes-none,
  Consumes-Keeps,
)

stream_rest_is : (at : ℕ) (bytes : List ℕ) → take (length bytes - at) (drop at bytes) ≡ drop at bytes
stream_rest_is at bytes = ap (λ (n : ℕ). take n (drop at bytes)) (sym (length-drop at bytes))
    ∙ take-length (drop at bytes)

pub length-rest : (at : ℕ) (bytes : List ℕ) → length (take (length bytes - at) (drop at bytes)) ≡ length bytes - at
length-rest at bytes = ap (λ (t : List ℕ). length t) (stream_rest_is at bytes) ∙ length-drop at bytes

-- n bytes more of the rest are written
pub writes_more : (w0 w w' : Option (List ℕ)) (bytes : List ℕ) (at n : ℕ) → Appends w0 w (take at bytes)
    → Appends w w' (take n (take (length bytes - at) (drop at bytes))) → Appends w0 w' (take (at + n) bytes)
writes_more w0 w w' bytes at n before now =
    let now' : Appends w w' (take n (drop at bytes)) =
    subst (λ (t : List ℕ). Appends w w' (take n t)) (stream_rest_is at bytes) now in
    rw (take-add at n bytes) (Appends-trans w0 w w' (take at bytes) (take n (drop at bytes)) before now')

-- what is written before a fault is a front
pub stops_writing : (w0 w w' : Option (List ℕ)) (bytes : List ℕ) (at : ℕ) → Appends w0 w (take at bytes) → Keeps w w'
    → AppendsFront w0 w' bytes
stops_writing w0 w w' bytes at before keeps =
    (take at bytes, drop at bytes, sym (take-append-drop at bytes), Appends-Keeps w0 w w' (take at bytes) before keeps)

pub on_err : {T E : Type 0} (r : Result T E) (P : Type 0) → P → OnErr r P
on_err (Ok x) P h = tt
on_err (Err e) P h = h

pub stream_appends_front : (w w' : Option (List ℕ)) (bs : List ℕ) → Appends w w' bs → AppendsFront w w' bs
stream_appends_front w w' bs p = (bs, [], sym (append-nil bs), p)

pub front_none : (w : Option (List ℕ)) (bs : List ℕ) → AppendsFront w w bs
front_none w bs = ([], bs, refl, Appends-none w)

pub front_longer : (w w' : Option (List ℕ)) (bs more : List ℕ) → AppendsFront w w' bs → AppendsFront w w' (bs ++ more)
front_longer w w' bs more h = (
  h.0,
  h.1 ++ more,
  ap (λ (t : List ℕ). t ++ more) h.2 ∙ append_assoc h.0 h.1 more,
  h.3,
)

pub front_later : (w0 w w' : Option (List ℕ)) (said later : List ℕ) → Appends w0 w said → AppendsFront w w' later
    → AppendsFront w0 w' (said ++ later)
front_later w0 w w' said later before h = (
  said ++ h.0,
  h.1,
  ap (λ (t : List ℕ). said ++ t) h.2 ∙ sym (append_assoc said h.0 h.1),
  Appends-trans w0 w w' said h.0 before h.3,
)

pub err_later : {T E : Type 0} (r : Result T E) (w0 w w' : Option (List ℕ)) (said later : List ℕ)
    → Appends w0 w said → OnErr r (AppendsFront w w' later) → OnErr r (AppendsFront w0 w' (said ++ later))
err_later (Ok x) w0 w w' said later before h = tt
err_later (Err e) w0 w w' said later before h = front_later w0 w w' said later before h

pub ruleset fronts = (front_none, front_longer, front_later, Appends-none, Appends-trans)
