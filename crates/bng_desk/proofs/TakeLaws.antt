-- Readings of roles, one after the other, and the items that they are.
use Rattle.std.proofs.Common.{◌≡◌, ◌⊎◌, inl, inr, ℕ, ◌+◌, ◌<◌, ◌≤◌, Bool, true, false, ◌&&◌, List, [], ◌∷◌, ◌++◌, length, map, refl, sym, ap, subst, ◌∙◌, append-nil, length-append, arith}
use Rattle.std.specs.List.{All}
use Rattle.std.proofs.lemmas.List.{map-append, length-map}
use Rattle.std.proofs.lemmas.List.Elements.{All-nil, All-cons, All-head, All-append}
use Rattle.std.proofs.lemmas.Grind.{flat_map-append}
use Rattle.bng_base.specs.declared.address.Peer.{Peer}
use Rattle.bng_base.specs.declared.item.Item.{Item}
use Rattle.bng_base.specs.declared.item.ItemKind.{ItemKind}
use Rattle.bng_base.specs.declared.outside.Datagram.{Datagram}
use Rattle.bng_base.specs.declared.outside.Heard.TheVariants.{Receive}
use Rattle.bng_base.specs.declared.outside.Received.{Received}
use Rattle.bng_base.specs.declared.outside.Received.TheVariants.{Got, Empty, Failed}
use Rattle.bng_base.specs.declared.outside.Role.{Role}
use Rattle.bng_base.specs.FateOf.{Arrival}
use Rattle.bng_base.specs.Packet.{Packet}
use Rattle.bng_base.specs.Told.{PlantTold}
use Rattle.bng_base.specs.Stretch.{PlantStretch, plant_joined, ExtendsPlant}
use Rattle.bng_base.proofs.StretchLaws.{plant_assoc, plant_left, plant_right, plant_more, plant_stays}
use Rattle.bng_desk.specs.declared.reading.ReadEnd.{ReadEnd}
use Rattle.bng_desk.specs.declared.reading.ReadEnd.TheVariants.{Full, Dry, Broken}
use Rattle.bng_desk.specs.Items.{DataReading, kind_of, arrived, taken_items, drawn_from}
use Rattle.bng_desk.specs.Random.{Drawn, draw}
use Rattle.bng_desk.specs.Reading.{EndsRight, is_empty, receives, taken_in, receiving, ending_stretch}
use Rattle.bng_desk.specs.Intake.{Takes}
use Rattle.bng_desk.specs.Turn.{reading_stretch, data_stretch, arrivals_in}
use Rattle.bng_desk.proofs.Drawing.{drawn_length, drawn_more, draws_more}

abbrev made : ItemKind → Peer → Bool → ℕ → List ℕ → List ℕ → Item
made kind from cut headroom payload random = record { kind = kind; from = from; frame = record { payload = payload; headroom = headroom }; cut = cut; random = random; target = 0; ask = 0 }

-- One role --------------------------------------------------------------------------------------------------------------

-- what the receives of these add
abbrev pub taking : Role → List Arrival → PlantStretch
taking role arrivals = record { heard = receives role arrivals; taken = taken_in role arrivals; sent = []; failed = 0 }

taking_more : (role : Role) (bs : List Arrival) (a : Arrival) → plant_joined (taking role bs) (receiving role (Got a.from a.cut) a.octets) ≡ taking role (bs ++ a ∷ [])
taking_more role bs a =
    let heard = λ (x : Arrival). Receive role (Got x.from x.cut) in
    let taken = λ (x : Arrival). let d : Datagram = record { role = role; peer = x.from; octets = x.octets } in d in
    rw (map-append heard bs (a ∷ []), map-append taken bs (a ∷ []))

-- a datagram was taken
pub one_taken : (role : Role) (p₀ p₁ p₂ : PlantTold) (bs : List Arrival) (a : Arrival) → ExtendsPlant p₀ p₁ (taking role bs)
    → ExtendsPlant p₁ p₂ (receiving role (Got a.from a.cut) a.octets) → ExtendsPlant p₀ p₂ (taking role (bs ++ a ∷ []))
one_taken role p₀ p₁ p₂ bs a so_far here =
    subst (λ (s : PlantStretch). ExtendsPlant p₀ p₂ s) (taking_more role bs a)
    (plant_more p₀ p₁ p₂ (taking role bs) (receiving role (Got a.from a.cut) a.octets) so_far here)

-- what was taken of a role so far
pub record Taken (role : Role) (old new : PlantTold) (draws draws' : Drawn) (items items' : List Item) (quiet : Bool) (arrivals : List Arrival) : Type 0 where
  pub told : ExtendsPlant old new (taking role arrivals)
  pub items_are : items' ≡ items ++ drawn_from draws.seed draws.drawn (map (arrived role) arrivals)
  pub draws_are : draws' ≡ record draws { drawn = draws.drawn + length arrivals }
  pub quiet_is : quiet ≡ is_empty arrivals

never_empty : {X : Type 0} (xs : List X) (x : X) → false ≡ is_empty (xs ++ x ∷ [])
never_empty [] x = refl
never_empty (y ∷ xs) x = refl

-- what a receive filled, as an item
pub item_is : (role : Role) (kind : ItemKind) (from : Peer) (cut : Bool) (frame : Packet) (random octets : List ℕ) → kind ≡ kind_of role → frame.headroom ≡ 64 → random ≡ octets
    → record { kind = kind; from = from; frame = frame; cut = cut; random = random; target = 0; ask = 0 } ≡ record (arrived role (record { from = from; cut = cut; octets = frame.payload })) { random = octets }
item_is role kind from cut frame random octets of whole drawn =
    ap (λ (k : ItemKind). made k from cut frame.headroom frame.payload random) of
    ∙ ap (λ (h : ℕ). made (kind_of role) from cut h frame.payload random) whole
    ∙ ap (λ (r : List ℕ). made (kind_of role) from cut 64 frame.payload r) drawn

-- one datagram more
pub taken_more : (role : Role) (p₀ p₁ p₂ : PlantTold) (d₀ d₁ d₂ : Drawn) (i₀ i₁ i₂ : List Item) (quiet : Bool) (bs : List Arrival) (a : Arrival) → Taken role p₀ p₁ d₀ d₁ i₀ i₁ quiet bs
    → ExtendsPlant p₁ p₂ (receiving role (Got a.from a.cut) a.octets) → i₂ ≡ i₁ ++ record (arrived role a) { random = draw d₁.seed d₁.drawn } ∷ [] → d₂ ≡ record d₁ { drawn = d₁.drawn + 1 }
    → Taken role p₀ p₂ d₀ d₂ i₀ i₂ false (bs ++ a ∷ [])
taken_more role p₀ p₁ p₂ d₀ d₁ d₂ i₀ i₁ i₂ quiet bs a x told items draws =
    let was = map (arrived role) bs in
    let drawn : d₁ ≡ record d₀ { drawn = d₀.drawn + length was } = x.draws_are ∙ ap (λ (n : ℕ). record d₀ { drawn = d₀.drawn + n }) (sym (length-map bs (arrived role))) in
    record {
      told = one_taken role p₀ p₁ p₂ bs a x.told told;
      items_are = drawn_more d₀.seed d₀.drawn i₀ i₁ i₂ was (arrived role a ∷ []) d₁ x.items_are drawn items
          ∙ ap (λ (is : List Item). i₀ ++ drawn_from d₀.seed d₀.drawn is) (sym (map-append (arrived role) bs (a ∷ [])));
      draws_are = draws ∙ ap (λ (d : Drawn). record d { drawn = d.drawn + 1 }) x.draws_are ∙ ap (λ (n : ℕ). record d₀ { drawn = n }) (omega (arith, length-append bs (a ∷ [])));
      quiet_is = never_empty bs a;
    }

-- a receive that took nothing ends the reading
pub record IsOver (role : Role) (old new : PlantTold) : Type 0 where
  pub ended : ReadEnd
  pub told : ExtendsPlant old new (ending_stretch role ended)
  pub right : (most n : ℕ) → n < most → EndsRight most n ended

pub over : (role : Role) (p p' : PlantTold) (answer : Received) (octets : List ℕ) → ExtendsPlant p p' (receiving role answer octets) → (answer ≡ Empty) ⊎ (answer ≡ Failed) → IsOver role p p'
over role p p' answer octets told (inl is) = record { ended = Dry; told = subst (λ (x : Received). ExtendsPlant p p' (receiving role x octets)) is told; right = λ most n l. l }
over role p p' answer octets told (inr is) = record { ended = Broken; told = subst (λ (x : Received). ExtendsPlant p p' (receiving role x octets)) is told; right = λ most n l. l }

-- the reading of the role, once it has ended
pub role_read : (role : Role) (most : ℕ) (old was new : PlantTold) (draws draws' : Drawn) (items items' : List Item) (quiet : Bool) (arrivals : List Arrival) (ended : ReadEnd)
    → EndsRight most (length arrivals) ended → length arrivals ≤ most → Taken role old was draws draws' items items' quiet arrivals → ExtendsPlant was new (ending_stretch role ended)
    → Takes (role ∷ []) (λ _. most) most old new draws draws' items items' quiet
role_read role most old was new draws draws' items items' quiet arrivals ended ends within x last =
    let r : DataReading = record { role = role; arrivals = arrivals; ended = ended } in
    let all : taken_items (r ∷ []) ≡ map (arrived role) arrivals = append-nil (map (arrived role) arrivals) in
    let count : length (taken_items (r ∷ [])) ≡ length arrivals = ap (λ (is : List Item). length is) all ∙ length-map arrivals (arrived role) in
    record {
      readings = r ∷ [];
      are_roles = refl;
      read = All-cons (λ (x : DataReading). EndsRight most (length x.arrivals) x.ended) r [] ends (All-nil (λ (x : DataReading). EndsRight most (length x.arrivals) x.ended));
      told = subst (λ (s : PlantStretch). ExtendsPlant old new s) (sym (plant_right (reading_stretch r))) (plant_more old was new (taking role arrivals) (ending_stretch role ended) x.told last);
      items_are = x.items_are ∙ ap (λ (is : List Item). items ++ drawn_from draws.seed draws.drawn is) (sym all);
      number = omega (arith, count, within);
      draws_are = x.draws_are ∙ ap (λ (n : ℕ). record draws { drawn = draws.drawn + n }) (sym count);
      quiet_is = x.quiet_is ∙ ap is_empty (sym (append-nil arrivals));
    }

-- no more was taken than the number
pub taken_within : (most n : ℕ) (ended : ReadEnd) → EndsRight most n ended → n ≤ most
taken_within most n Full ends = omega arith
taken_within most n Dry ends = omega arith
taken_within most n Broken ends = omega arith

-- Roles one after the other ---------------------------------------------------------------------------------------------

stretch_joined : (rs ss : List DataReading) → plant_joined (data_stretch rs) (data_stretch ss) ≡ data_stretch (rs ++ ss)
stretch_joined [] ss = plant_left (data_stretch ss)
stretch_joined (r ∷ rs) ss = plant_assoc (reading_stretch r) (data_stretch rs) (data_stretch ss) ∙ ap (plant_joined (reading_stretch r)) (stretch_joined rs ss)

is_empty_append : {X : Type 0} (xs ys : List X) → is_empty (xs ++ ys) ≡ (is_empty xs && is_empty ys)
is_empty_append [] ys = refl
is_empty_append (x ∷ xs) ys = refl

pub roles_more : (roles others : List Role) (most : Role → ℕ) (m k : ℕ) (p₀ p₁ p₂ : PlantTold) (d₀ d₁ d₂ : Drawn) (i₀ i₁ i₂ : List Item) (a b : Bool)
    → Takes roles most m p₀ p₁ d₀ d₁ i₀ i₁ a → Takes others most k p₁ p₂ d₁ d₂ i₁ i₂ b → Takes (roles ++ others) most (m + k) p₀ p₂ d₀ d₂ i₀ i₂ (a && b)
roles_more roles others most m k p₀ p₁ p₂ d₀ d₁ d₂ i₀ i₁ i₂ a b x y =
    let rs = x.readings in
    let ss = y.readings in
    let all : taken_items rs ++ taken_items ss ≡ taken_items (rs ++ ss) = sym (flat_map-append (λ (r : DataReading). map (arrived r.role) r.arrivals) rs ss) in
    record {
      readings = rs ++ ss;
      are_roles = map-append (λ (r : DataReading). r.role) rs ss ∙ ap (λ (qs : List Role). qs ++ map (λ (r : DataReading). r.role) ss) x.are_roles ∙ ap (λ (qs : List Role). roles ++ qs) y.are_roles;
      read = All-append (λ (r : DataReading). EndsRight (most r.role) (length r.arrivals) r.ended) rs ss x.read y.read;
      told = subst (λ (s : PlantStretch). ExtendsPlant p₀ p₂ s) (stretch_joined rs ss) (plant_more p₀ p₁ p₂ (data_stretch rs) (data_stretch ss) x.told y.told);
      items_are = drawn_more d₀.seed d₀.drawn i₀ i₁ i₂ (taken_items rs) (taken_items ss) d₁ x.items_are x.draws_are y.items_are ∙ ap (λ (is : List Item). i₀ ++ drawn_from d₀.seed d₀.drawn is) all;
      number = omega (arith, x.number, y.number, sym (ap (λ (is : List Item). length is) all), length-append (taken_items rs) (taken_items ss));
      draws_are = draws_more d₀.seed d₀.drawn (length (taken_items ss)) d₁ d₂ (taken_items rs) (taken_items ss) x.draws_are y.draws_are refl
          ∙ ap (λ (is : List Item). record d₀ { drawn = d₀.drawn + length is }) all;
      quiet_is = ap (λ (q : Bool). q && b) x.quiet_is ∙ ap (λ (q : Bool). is_empty (arrivals_in rs) && q) y.quiet_is
          ∙ sym (ap is_empty (flat_map-append (λ (r : DataReading). r.arrivals) rs ss) ∙ is_empty_append (arrivals_in rs) (arrivals_in ss));
    }

pub roles_none : (most : Role → ℕ) (m : ℕ) (p : PlantTold) (d : Drawn) (i : List Item) → Takes [] most m p p d d i i true
roles_none most m p d i = record {
  readings = [];
  are_roles = refl;
  read = All-nil (λ (r : DataReading). EndsRight (most r.role) (length r.arrivals) r.ended);
  told = plant_stays p;
  items_are = sym (append-nil i);
  number = omega arith;
  draws_are = ap (λ (n : ℕ). record d { drawn = n }) (omega arith);
  quiet_is = refl;
}

pub roles_wider : (roles : List Role) (most : Role → ℕ) (m n : ℕ) (p p' : PlantTold) (d d' : Drawn) (i i' : List Item) (b : Bool) → m ≤ n → Takes roles most m p p' d d' i i' b → Takes roles most n p p' d d' i i' b
roles_wider roles most m n p p' d d' i i' b le x = record {
  readings = x.readings;
  are_roles = x.are_roles;
  read = x.read;
  told = x.told;
  items_are = x.items_are;
  number = omega (arith, x.number);
  draws_are = x.draws_are;
  quiet_is = x.quiet_is;
}

read_as : (role : Role) (k : ℕ) (most : Role → ℕ) (rs : List DataReading) → most role ≡ k → map (λ (r : DataReading). r.role) rs ≡ role ∷ [] → All (λ (r : DataReading). EndsRight k (length r.arrivals) r.ended) rs
    → All (λ (r : DataReading). EndsRight (most r.role) (length r.arrivals) r.ended) rs
read_as role k most [] same is read = All-nil (λ (r : DataReading). EndsRight (most r.role) (length r.arrivals) r.ended)
read_as role k most (r ∷ []) same is read =
    let of : r.role ≡ role = cc in
    All-cons (λ (x : DataReading). EndsRight (most x.role) (length x.arrivals) x.ended) r []
    (subst (λ (n : ℕ). EndsRight n (length r.arrivals) r.ended) (sym (ap most of ∙ same)) (All-head (λ (x : DataReading). EndsRight k (length x.arrivals) x.ended) r [] read))
    (All-nil (λ (x : DataReading). EndsRight (most x.role) (length x.arrivals) x.ended))
read_as role k most (r ∷ s ∷ rs) same is read = let no_more : ⊥ = cc in absurd no_more

-- the reading of one role, by the number that it has among all
pub role_as : (role : Role) (k n : ℕ) (most : Role → ℕ) (p p' : PlantTold) (d d' : Drawn) (i i' : List Item) (b : Bool) → most role ≡ k → Takes (role ∷ []) (λ _. k) n p p' d d' i i' b → Takes (role ∷ []) most n p p' d d' i i' b
role_as role k n most p p' d d' i i' b same x = record {
  readings = x.readings;
  are_roles = x.are_roles;
  read = read_as role k most x.readings same x.are_roles x.read;
  told = x.told;
  items_are = x.items_are;
  number = x.number;
  draws_are = x.draws_are;
  quiet_is = x.quiet_is;
}

-- so many items came at most
pub takes_length : (roles : List Role) (most : Role → ℕ) (n : ℕ) (p p' : PlantTold) (d d' : Drawn) (i i' : List Item) (b : Bool) → Takes roles most n p p' d d' i i' b → length i' ≤ length i + n
takes_length roles most n p p' d d' i i' b x =
    omega (arith, x.number, ap (λ (is : List Item). length is) x.items_are, length-append i (drawn_from d.seed d.drawn (taken_items x.readings)), drawn_length d.seed d.drawn (taken_items x.readings))

pub takes_drawn : (roles : List Role) (most : Role → ℕ) (n : ℕ) (p p' : PlantTold) (d d' : Drawn) (i i' : List Item) (b : Bool) → Takes roles most n p p' d d' i i' b → d'.drawn ≤ d.drawn + n
takes_drawn roles most n p p' d d' i i' b x = omega (arith, x.number, ap (λ (y : Drawn). y.drawn) x.draws_are)
