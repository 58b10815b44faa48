-- Names, numbers and lists of texts: each is the spelling of one value.
use Rattle.std.proofs.Common.{◌≡◌, ℕ, List, [], ◌∷◌, map, refl, sym, ap, ◌∙◌}
use Rattle.arrayvec.specs.ArrayVec.{ArrayVec}
use Rattle.toml.specs.Data.{Data, string}
use Rattle.toml.specs.View.{items_of}
use Rattle.bng_base.specs.declared.settings.AuthKind.{AuthKind}
use Rattle.bng_base.specs.declared.settings.AuthKind.TheVariants.{Chap, Pap}
use Rattle.bng_schema.specs.Forms.{IsName, IsLabel, IsOctets, IsNumber, AreServices, AreKinds, list_of, kind_text}

pub same_items : {X : Type 0} (a b : ArrayVec X) → a.items ≡ b.items → a ≡ b
same_items {X} a b same =
    let make : List X → ArrayVec X = λ xs. record { items = xs } in
    ap make same

pub string_once : (s t : List ℕ) → string s ≡ string t → s ≡ t
string_once s t e = cc

pub name_once : (d : Data) (m n : ArrayVec ℕ) → IsName d m → IsName d n → m ≡ n
name_once d m n p q = same_items m n (string_once m.items n.items (sym p.text ∙ q.text))

pub label_once : (d : Data) (m n : ArrayVec ℕ) → IsLabel d m → IsLabel d n → m ≡ n
label_once d m n p q = same_items m n (string_once m.items n.items (sym p.text ∙ q.text))

pub octets_once : (most : ℕ) (d : Data) (m n : ArrayVec ℕ) → IsOctets most d m → IsOctets most d n → m ≡ n
octets_once most d m n p q = same_items m n (string_once m.items n.items (sym p.text ∙ q.text))

pub number_once : (low high : ℕ) (d : Data) (m n : ℕ) → IsNumber low high d m → IsNumber low high d n → m ≡ n
number_once low high d m n p q =
    let numbers = sym p.number ∙ q.number in
    cc

-- a list of items is one list of data
pub items_once : (xs ys : List Data) → items_of xs ≡ items_of ys → xs ≡ ys
items_once [] [] e = refl
items_once [] (y ∷ ys) e = cc
items_once (x ∷ xs) [] e = cc
items_once (x ∷ xs) (y ∷ ys) e =
    let heads : x ≡ y = cc in
    let tails : items_of xs ≡ items_of ys = cc in
    let more : xs ≡ ys = items_once xs ys tails in
    cc

-- where texts spell one thing each, a list of them does
pub texts_once : {X : Type 0} (text : X → List ℕ) → ((x y : X) → text x ≡ text y → x ≡ y) → (xs ys : List X)
    → map (λ x. string (text x)) xs ≡ map (λ x. string (text x)) ys → xs ≡ ys
texts_once text once [] [] e = refl
texts_once text once [] (y ∷ ys) e = cc
texts_once text once (x ∷ xs) [] e = cc
texts_once text once (x ∷ xs) (y ∷ ys) e =
    let strings : string (text x) ≡ string (text y) = cc in
    let heads : x ≡ y = once x y (string_once (text x) (text y) strings) in
    let rest : map (λ x. string (text x)) xs ≡ map (λ x. string (text x)) ys = cc in
    let tails : xs ≡ ys = texts_once text once xs ys rest in
    cc

list_once : {X : Type 0} (text : X → List ℕ) → ((x y : X) → text x ≡ text y → x ≡ y) → (xs ys : List X) → list_of text xs ≡ list_of text ys → xs ≡ ys
list_once text once xs ys e =
    let items : items_of (map (λ x. string (text x)) xs) ≡ items_of (map (λ x. string (text x)) ys) = cc in
    texts_once text once xs ys (items_once _ _ items)

pub services_once : (d : Data) (a b : ArrayVec (ArrayVec ℕ)) → AreServices d a → AreServices d b → a ≡ b
services_once d a b p q = same_items a b (list_once (λ s. s.items) same_items a.items b.items (sym p.list ∙ q.list))

pub kind_once : (a b : AuthKind) → kind_text a ≡ kind_text b → a ≡ b
kind_once Chap Chap e = refl
kind_once Chap Pap e = cc
kind_once Pap Chap e = cc
kind_once Pap Pap e = refl

pub kinds_once : (d : Data) (a b : ArrayVec AuthKind) → AreKinds d a → AreKinds d b → a ≡ b
kinds_once d a b p q = same_items a b (list_once kind_text kind_once a.items b.items (sym p.list ∙ q.list))
