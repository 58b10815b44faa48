-- The lines of a round are read in one way.
use Rattle.std.proofs.Common.{◌≡◌, ℕ, ◌^◌, ◌<◌, List, [], ◌∷◌, ◌++◌, Bool, None, refl, sym, ap, ◌∙◌, append_assoc, arith}
use Rattle.std.specs.Prelude.{IsTrue, codes}
use Rattle.std.specs.Fmt.{decimal}
use Rattle.std.proofs.lemmas.List.{append_cancel_left}
use Rattle.std.proofs.lemmas.Fmt.{decimal_injective}
use Rattle.hex.specs.Hex.{encode_lower}
use Rattle.bng_base.specs.Packet.{Packet}
use Rattle.bng_base.specs.declared.address.Peer.{Peer}
use Rattle.bng_base.specs.declared.outside.Role.{Role}
use Rattle.bng_base.specs.declared.item.ItemKind.{ItemKind}
use Rattle.bng_base.specs.declared.item.Item.{Item}
use Rattle.bng_base.specs.declared.item.Entry.{Entry}
use Rattle.bng_base.specs.declared.item.Loose.{Loose}
use Rattle.bng_base.specs.declared.item.OutRecord.{OutRecord}
use Rattle.bng_base.specs.declared.item.Claim.{Claim}
use Rattle.bng_base.specs.declared.fate.Fate.{Fate}
use Rattle.bng_spell.specs.Fields.{kind_text, peer_text, flag_text, role_text, claim_text, fate_text, octets_text}
use Rattle.bng_spell.specs.Lines.{entry_line, loose_line, refused_line, out_line}
use Rattle.bng_spell.specs.Kept.{AreOctets, IsKind, IsRole, IsPeer, IsClaim, IsSet, IsItem, IsEntry, IsLoose, IsOut}
use Rattle.bng_spell.specs.Plain.{is_separator}
use Rattle.bng_spell.specs.Codes.{until_once, pair_once}
use Rattle.bng_spell.specs.FieldNames.{decimal_plain, encoded_plain, encoded_same, octets_plain, octets_same, frame_same, flag_plain, flag_same, kind_plain, kind_same, role_plain, role_same, fate_plain, fate_same}
use Rattle.bng_spell.specs.Addresses.{peer_once, claim_once}

-- texts of which none begins another
pub record Code (A : Type 0) : Type 1 where
  pub fits : A → Type 0
  pub text : A → List ℕ
  pub once : (v w : A) (x y : List ℕ) → fits v → fits w → text v ++ x ≡ text w ++ y → (v ≡ w) × (x ≡ y)

-- one behind the other
abbrev pub both : {A B : Type 0} → Code A → Code B → Code (A × B)
both {A} {B} a b = record {
  fits = λ (p : A × B). a.fits p.0 × b.fits p.1;
  text = λ (p : A × B). a.text p.0 ++ b.text p.1;
  once = λ (v w : A × B) (x y : List ℕ) f g e.
      let r = pair_once a.fits a.text b.fits b.text a.once b.once v.0 w.0 v.1 w.1 x y f.0 g.0 f.1 g.1 e in
      (λ i. (r.0 i, r.1.0 i), r.1.1);
}

-- a number up to a separator
abbrev pub number : (stop : ℕ) → IsTrue (is_separator stop) → Code ℕ
number stop s = record {
  fits = λ (n : ℕ). n < 2 ^ 64;
  text = λ (n : ℕ). decimal n ++ stop ∷ [];
  once = λ (m n : ℕ) (x y : List ℕ) f g e.
      let r = until_once stop (decimal m) (decimal n) x y s (decimal_plain m f) (decimal_plain n g) e in
      (decimal_injective m n f g r.0, r.1);
}

abbrev pub kind : Code ItemKind
kind = record {
  fits = IsKind;
  text = λ (k : ItemKind). kind_text k ++ 32 ∷ [];
  once = λ (k l : ItemKind) (x y : List ℕ) f g e.
      let r = until_once 32 (kind_text k) (kind_text l) x y refl (kind_plain k f) (kind_plain l g) e in
      (kind_same k l f g r.0, r.1);
}

abbrev pub role : Code Role
role = record {
  fits = IsRole;
  text = λ (k : Role). role_text k ++ 32 ∷ [];
  once = λ (k l : Role) (x y : List ℕ) f g e.
      let r = until_once 32 (role_text k) (role_text l) x y refl (role_plain k f) (role_plain l g) e in
      (role_same k l f g r.0, r.1);
}

abbrev pub peer : Code Peer
peer = record { fits = IsPeer; text = λ (p : Peer). peer_text p ++ 32 ∷ []; once = peer_once }

abbrev pub claim : Code Claim
claim = record { fits = IsClaim; text = λ (c : Claim). claim_text c ++ 10 ∷ []; once = claim_once }

abbrev pub flag : Code Bool
flag = record {
  fits = λ (b : Bool). Unit {0};
  text = λ (b : Bool). flag_text b ++ 32 ∷ [];
  once = λ (b c : Bool) (x y : List ℕ) f g e.
      let r = until_once 32 (flag_text b) (flag_text c) x y refl (flag_plain b) (flag_plain c) e in
      (flag_same b c r.0, r.1);
}

abbrev pub fate : Code Fate
fate = record {
  fits = λ (b : Fate). Unit {0};
  text = λ (b : Fate). fate_text b ++ 10 ∷ [];
  once = λ (b c : Fate) (x y : List ℕ) f g e.
      let r = until_once 10 (fate_text b) (fate_text c) x y refl (fate_plain b) (fate_plain c) e in
      (fate_same b c r.0, r.1);
}

abbrev pub digits : Code (List ℕ)
digits = record {
  fits = AreOctets;
  text = λ (b : List ℕ). encode_lower b ++ 32 ∷ [];
  once = λ (b c : List ℕ) (x y : List ℕ) f g e.
      let r = until_once 32 (encode_lower b) (encode_lower c) x y refl (encoded_plain b f) (encoded_plain c g) e in
      (encoded_same b c f g r.0, r.1);
}

abbrev pub octets : (stop : ℕ) → IsTrue (is_separator stop) → Code (List ℕ)
octets stop s = record {
  fits = AreOctets;
  text = λ (b : List ℕ). octets_text b ++ stop ∷ [];
  once = λ (b c : List ℕ) (x y : List ℕ) f g e.
      let r = until_once stop (octets_text b) (octets_text c) x y s (octets_plain b f) (octets_plain c g) e in
      (octets_same b c f g r.0, r.1);
}

abbrev pub frame : (stop : ℕ) → IsTrue (is_separator stop) → Code Packet
frame stop s = record {
  fits = IsSet;
  text = λ (b : Packet). octets_text b.payload ++ stop ∷ [];
  once = λ (b c : Packet) (x y : List ℕ) f g e.
      let r = until_once stop (octets_text b.payload) (octets_text c.payload) x y s (octets_plain b.payload f.octets) (octets_plain c.payload g.octets) e in
      (frame_same b c f g r.0, r.1);
}

-- the fields of an item before its octets, and what follows them
abbrev pub item_with : {B : Type 0} → Code B → Code (ItemKind × (Peer × (Bool × (ℕ × (ℕ × (List ℕ × B))))))
item_with b = both kind (both peer (both flag (both (number 32 refl) (both (number 32 refl) (both digits b)))))

abbrev pub Fields : Type 0 → Type 0
Fields B = ItemKind × (Peer × (Bool × (ℕ × (ℕ × (List ℕ × B)))))

abbrev pub fields_of : {B : Type 0} → Item → B → Fields B
fields_of i b = (i.kind, (i.from, (i.cut, (i.target, (i.ask, (i.random, b))))))

abbrev pub item_of : {B : Type 0} → Fields B → Packet → Item
item_of f p = record { kind = f.0; from = f.1.0; frame = p; cut = f.1.1.0; random = f.1.1.1.1.1.0; target = f.1.1.1.0; ask = f.1.1.1.1.0 }

abbrev pub seated : {B : Type 0} → Code B → Code (ℕ × (ℕ × B))
seated b = both (number 32 refl) (both (number 32 refl) b)

short : (n : ℕ) → n < 2 ^ 16 → n < 2 ^ 64
short n h = omega arith

abbrev pub loose_code : Code (ℕ × (ℕ × Fields (Packet × Fate)))
loose_code = seated (item_with (both (frame 32 refl) fate))

abbrev pub loose_fields : Loose → ℕ × (ℕ × Fields (Packet × Fate))
loose_fields l = (l.seat, (l.place, fields_of l.item (l.item.frame, l.fate)))

loose_back : ℕ × (ℕ × Fields (Packet × Fate)) → Loose
loose_back f = record { seat = f.0; place = f.1.0; item = item_of f.1.1 f.1.1.1.1.1.1.1.1.0; fate = f.1.1.1.1.1.1.1.1.1 }

loose_back_is : (l : Loose) → loose_back (loose_fields l) ≡ l
unfolding loose_back
loose_back_is l = refl

regroup_loose : (w a b k p c t q r o l : List ℕ) (x : List ℕ)
    → (((w ++ 32 ∷ []) ++ ((a ++ 32 ∷ []) ++ ((b ++ 32 ∷ []) ++ ((k ++ 32 ∷ []) ++ ((p ++ 32 ∷ []) ++ ((c ++ 32 ∷ []) ++ ((t ++ 32 ∷ []) ++ ((q ++ 32 ∷ []) ++ ((r ++ 32 ∷ []) ++ ((o ++ 32 ∷ []) ++ [])))))))))) ++ (l ++ 10 ∷ [])) ++ x
    ≡ (w ++ 32 ∷ []) ++ (((a ++ 32 ∷ []) ++ ((b ++ 32 ∷ []) ++ ((k ++ 32 ∷ []) ++ ((p ++ 32 ∷ []) ++ ((c ++ 32 ∷ []) ++ ((t ++ 32 ∷ []) ++ ((q ++ 32 ∷ []) ++ ((r ++ 32 ∷ []) ++ ((o ++ 32 ∷ []) ++ (l ++ 10 ∷ [])))))))))) ++ x)
regroup_loose w a b k p c t q r o l x = simp append_assoc

pub loose_is : (l : Loose) (x : List ℕ) → loose_line l ++ x ≡ codes "loose " ++ (loose_code.text (loose_fields l) ++ x)
loose_is l x =
    regroup_loose (codes "loose") (decimal l.seat) (decimal l.place) (kind_text l.item.kind) (peer_text l.item.from) (flag_text l.item.cut) (decimal l.item.target)
    (decimal l.item.ask) (encode_lower l.item.random) (octets_text l.item.frame.payload) (fate_text l.fate) x

loose_fits : (l : Loose) → IsLoose l → loose_code.fits (loose_fields l)
loose_fits l f =
    let i = f.item in
    (short l.seat f.seat, (short l.place f.place, (i.kind, (i.from, (tt, (short l.item.target i.target, (i.ask, (i.random, (i.frame, tt)))))))))

pub loose_once : (l m : Loose) (x y : List ℕ) → IsLoose l → IsLoose m → loose_line l ++ x ≡ loose_line m ++ y → (l ≡ m) × (x ≡ y)
loose_once l m x y f g e =
    let r = loose_code.once (loose_fields l) (loose_fields m) x y (loose_fits l f) (loose_fits m g)
    (append_cancel_left (codes "loose ") (loose_code.text (loose_fields l) ++ x) (loose_code.text (loose_fields m) ++ y) (sym (loose_is l x) ∙ e ∙ loose_is m y)) in
    (sym (loose_back_is l) ∙ ap loose_back r.0 ∙ loose_back_is m, r.1)

abbrev pub entry_code : Code (ℕ × (ℕ × (ℕ × Fields (Packet × Claim))))
entry_code = both (number 32 refl) (seated (item_with (both (frame 32 refl) claim)))

abbrev pub entry_fields : ℕ → Entry → ℕ × (ℕ × (ℕ × Fields (Packet × Claim)))
entry_fields shard e = (shard, (e.seat, (e.place, fields_of e.item (e.item.frame, e.claim))))

entry_back : ℕ → ℕ × (ℕ × (ℕ × Fields (Packet × Claim))) → Entry
entry_back moment f = record { seat = f.1.0; place = f.1.1.0; moment = moment; item = item_of f.1.1.1 f.1.1.1.1.1.1.1.1.1.0; claim = f.1.1.1.1.1.1.1.1.1.1 }

entry_back_is : (shard : ℕ) (e : Entry) → entry_back e.moment (entry_fields shard e) ≡ e
unfolding entry_back
entry_back_is shard e = refl

regroup_entry : (w s a b k p c t q r o l : List ℕ) (x : List ℕ)
    → (((w ++ 32 ∷ []) ++ ((s ++ 32 ∷ []) ++ ((a ++ 32 ∷ []) ++ ((b ++ 32 ∷ []) ++ ((k ++ 32 ∷ []) ++ ((p ++ 32 ∷ []) ++ ((c ++ 32 ∷ []) ++ ((t ++ 32 ∷ []) ++ ((q ++ 32 ∷ []) ++ ((r ++ 32 ∷ []) ++ ((o ++ 32 ∷ []) ++ []))))))))))) ++ (l ++ 10 ∷ [])) ++ x
    ≡ (w ++ 32 ∷ []) ++ (((s ++ 32 ∷ []) ++ ((a ++ 32 ∷ []) ++ ((b ++ 32 ∷ []) ++ ((k ++ 32 ∷ []) ++ ((p ++ 32 ∷ []) ++ ((c ++ 32 ∷ []) ++ ((t ++ 32 ∷ []) ++ ((q ++ 32 ∷ []) ++ ((r ++ 32 ∷ []) ++ ((o ++ 32 ∷ []) ++ (l ++ 10 ∷ []))))))))))) ++ x)
regroup_entry w s a b k p c t q r o l x = simp append_assoc

pub entry_is : (shard : ℕ) (e : Entry) (x : List ℕ) → entry_line shard e ++ x ≡ codes "entry " ++ (entry_code.text (entry_fields shard e) ++ x)
entry_is shard e x =
    regroup_entry (codes "entry") (decimal shard) (decimal e.seat) (decimal e.place) (kind_text e.item.kind) (peer_text e.item.from) (flag_text e.item.cut)
    (decimal e.item.target) (decimal e.item.ask) (encode_lower e.item.random) (octets_text e.item.frame.payload) (claim_text e.claim) x

entry_fits : (moment shard : ℕ) (e : Entry) → shard < 2 ^ 64 → IsEntry moment e → entry_code.fits (entry_fields shard e)
entry_fits moment shard e s f =
    let i = f.item in
    (s, (short e.seat f.seat, (short e.place f.place, (i.kind, (i.from, (tt, (short e.item.target i.target, (i.ask, (i.random, (i.frame, f.claim))))))))))

pub entry_once : (moment i j : ℕ) (e d : Entry) (x y : List ℕ) → i < 2 ^ 64 → j < 2 ^ 64 → IsEntry moment e → IsEntry moment d
    → entry_line i e ++ x ≡ entry_line j d ++ y → (i ≡ j) × ((e ≡ d) × (x ≡ y))
entry_once moment i j e d x y s t f g h =
    let r = entry_code.once (entry_fields i e) (entry_fields j d) x y (entry_fits moment i e s f) (entry_fits moment j d t g)
    (append_cancel_left (codes "entry ") (entry_code.text (entry_fields i e) ++ x) (entry_code.text (entry_fields j d) ++ y) (sym (entry_is i e x) ∙ h ∙ entry_is j d y)) in
    let same = sym (entry_back_is i e) ∙ ap (λ (m : ℕ). entry_back m (entry_fields i e)) (f.at ∙ sym g.at) ∙ ap (entry_back d.moment) r.0 ∙ entry_back_is j d in
    (ap (λ (p : ℕ × (ℕ × (ℕ × Fields (Packet × Claim)))). p.0) r.0, (same, r.1))

abbrev pub refused_code : Code (Fields Packet)
refused_code = item_with (frame 10 refl)

refused_back : Fields Packet → Item
refused_back f = item_of f f.1.1.1.1.1.1

refused_back_is : (i : Item) → refused_back (fields_of i i.frame) ≡ i
unfolding refused_back
refused_back_is i = refl

regroup_refused : (w k p c t q r o : List ℕ) (x : List ℕ)
    → (((w ++ 32 ∷ []) ++ ((k ++ 32 ∷ []) ++ ((p ++ 32 ∷ []) ++ ((c ++ 32 ∷ []) ++ ((t ++ 32 ∷ []) ++ ((q ++ 32 ∷ []) ++ ((r ++ 32 ∷ []) ++ []))))))) ++ (o ++ 10 ∷ [])) ++ x
    ≡ (w ++ 32 ∷ []) ++ (((k ++ 32 ∷ []) ++ ((p ++ 32 ∷ []) ++ ((c ++ 32 ∷ []) ++ ((t ++ 32 ∷ []) ++ ((q ++ 32 ∷ []) ++ ((r ++ 32 ∷ []) ++ (o ++ 10 ∷ []))))))) ++ x)
regroup_refused w k p c t q r o x = simp append_assoc

pub refused_is : (i : Item) (x : List ℕ) → refused_line i ++ x ≡ codes "refused " ++ (refused_code.text (fields_of i i.frame) ++ x)
refused_is i x =
    regroup_refused (codes "refused") (kind_text i.kind) (peer_text i.from) (flag_text i.cut) (decimal i.target) (decimal i.ask) (encode_lower i.random)
    (octets_text i.frame.payload) x

refused_fits : (i : Item) → IsItem i → refused_code.fits (fields_of i i.frame)
refused_fits i f = (f.kind, (f.from, (tt, (short i.target f.target, (f.ask, (f.random, f.frame))))))

pub refused_once : (i j : Item) (x y : List ℕ) → IsItem i → IsItem j → refused_line i ++ x ≡ refused_line j ++ y → (i ≡ j) × (x ≡ y)
refused_once i j x y f g e =
    let r = refused_code.once (fields_of i i.frame) (fields_of j j.frame) x y (refused_fits i f) (refused_fits j g)
    (append_cancel_left (codes "refused ") (refused_code.text (fields_of i i.frame) ++ x) (refused_code.text (fields_of j j.frame) ++ y) (sym (refused_is i x) ∙ e ∙ refused_is j y)) in
    (sym (refused_back_is i) ∙ ap refused_back r.0 ∙ refused_back_is j, r.1)

abbrev pub OutFields : Type 0
OutFields = ℕ × (ℕ × (ℕ × (Role × (Peer × (Bool × List ℕ)))))

abbrev pub out_code : Code OutFields
out_code = both (number 32 refl) (seated (both role (both peer (both flag (octets 10 refl)))))

abbrev pub out_fields : OutRecord → OutFields
out_fields o = (o.shard, (o.seat, (o.place, (o.role, (o.to, (o.sent, o.frame))))))

out_back : OutFields → OutRecord
out_back f = record { shard = f.0; seat = f.1.0; place = f.1.1.0; role = f.1.1.1.0; to = f.1.1.1.1.0; frame = f.1.1.1.1.1.1; charge = None; sent = f.1.1.1.1.1.0 }

out_back_is : (o : OutRecord) → o.charge ≡ None → out_back (out_fields o) ≡ o
unfolding out_back
out_back_is o e =
    λ i. record { shard = o.shard; seat = o.seat; place = o.place; role = o.role; to = o.to; frame = o.frame; charge = sym e i; sent = o.sent }

regroup_out : (w s a b r p c o : List ℕ) (x : List ℕ)
    → (((w ++ 32 ∷ []) ++ ((s ++ 32 ∷ []) ++ ((a ++ 32 ∷ []) ++ ((b ++ 32 ∷ []) ++ ((r ++ 32 ∷ []) ++ ((p ++ 32 ∷ []) ++ ((c ++ 32 ∷ []) ++ []))))))) ++ (o ++ 10 ∷ [])) ++ x
    ≡ (w ++ 32 ∷ []) ++ (((s ++ 32 ∷ []) ++ ((a ++ 32 ∷ []) ++ ((b ++ 32 ∷ []) ++ ((r ++ 32 ∷ []) ++ ((p ++ 32 ∷ []) ++ ((c ++ 32 ∷ []) ++ (o ++ 10 ∷ []))))))) ++ x)
regroup_out w s a b r p c o x = simp append_assoc

pub out_is : (o : OutRecord) (x : List ℕ) → out_line o ++ x ≡ codes "out " ++ (out_code.text (out_fields o) ++ x)
out_is o x =
    regroup_out (codes "out") (decimal o.shard) (decimal o.seat) (decimal o.place) (role_text o.role) (peer_text o.to) (flag_text o.sent) (octets_text o.frame) x

out_fits : (o : OutRecord) → IsOut o → out_code.fits (out_fields o)
out_fits o f = (short o.shard f.shard, (short o.seat f.seat, (short o.place f.place, (f.role, (f.to, (tt, f.octets))))))

pub out_once : (o p : OutRecord) (x y : List ℕ) → IsOut o → IsOut p → out_line o ++ x ≡ out_line p ++ y → (o ≡ p) × (x ≡ y)
out_once o p x y f g e =
    let r = out_code.once (out_fields o) (out_fields p) x y (out_fits o f) (out_fits p g)
    (append_cancel_left (codes "out ") (out_code.text (out_fields o) ++ x) (out_code.text (out_fields p) ++ y) (sym (out_is o x) ∙ e ∙ out_is p y)) in
    (sym (out_back_is o f.uncharged) ∙ ap out_back r.0 ∙ out_back_is p g.uncharged, r.1)
