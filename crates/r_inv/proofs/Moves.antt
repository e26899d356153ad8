-- The list of nodes while uses of outputs of a node move, and exit variables of it go, from the last to the first: what is
-- there, and what it costs.
use Rattle.std.proofs.Common.{◌≡◌, ◌≤◌, ◌<◌, ◌+◌, ◌*◌, ◌==◌, ◌&&◌, ◌||◌, ℕ, suc, true, false, Option, None, Some, option_map, List, [], ◌∷◌, map, length, refl, sym, ap, subst, ◌∙◌, arith}
use Rattle.std.specs.Prelude.{if◌then◌else◌, is_some, slice_get, option_and_then}
use Rattle.g_graph.specs.declared.op.Kind.{Kind}
use Rattle.g_graph.specs.declared.op.Origin.{Origin}
use Rattle.g_graph.specs.declared.op.Origin.TheVariants.{Arg, Out}
use Rattle.g_graph.specs.Scope.{same_origin}
use Rattle.g_graph.specs.Replace.{origin_replaced}
use Rattle.g_graph.proofs.lemmas.Unique.{equal_back}
use Rattle.g_arena_def.specs.declared.place.Place.{Place}
use Rattle.g_arena_def.specs.Flat.{FlatRegion, FlatNode, Flat, same_node, same_place}
use Rattle.g_arena_def.specs.Reads.{found, region_at, kind_in, output_kind, uses_in}
use Rattle.g_arena_def.specs.Edits.{inputs_at, uses_with}
use Rattle.r_sweep.specs.Removals.{exit_removed, uses_moved, uses_carried, exits_carried}
use Rattle.r_sweep.proofs.lemmas.Inputs.{input_here, same_place_self}
use Rattle.r_sweep.proofs.lemmas.Kept.{IsOther}
use Rattle.r_sweep.proofs.lemmas.UsesMove.{uses_are_moved}
use Rattle.r_sweep.specs.Exit.{IsExit}
use Rattle.r_sweep.specs.Measure.{flat_named}
use Rattle.r_sweep.proofs.lemmas.Edits.{found_uses}
use Rattle.r_sweep.proofs.lemmas.ExitSteps.{ExitsAt, exit_goes, some_within, within_some}
use Rattle.r_sweep.proofs.lemmas.Moves.{uses_left}
use Rattle.r_sweep.proofs.lemmas.Names.{NamesNone, fewer_named}
use Rattle.r_inv.specs.Cost.{uses_cost, exits_cost}
use Rattle.r_inv.proofs.ListParts.{AllSome}
use Rattle.r_inv.proofs.Alike.{AreAlike, alike_start, alike_on, alike_uses, alike_exit, region_alike, other_number}
use Rattle.r_inv.proofs.Named.{fewer_exit, named_twice}

times_suc : (a b : ℕ) → a * suc b ≡ a * b + a
times_suc a b = omega arith

-- what is no output of node n is none of these
pub other_origin : (n k : ℕ) (o : Origin) → IsOther n o → same_origin (Out n k) o ≡ false
other_origin n k (Arg j) h = refl
other_origin n k (Out m j) h = ap (λ t. t && (k == j)) (equal_back n m ∙ other_number n m j h)

-- the kind of an output
pub own_kind : (n : ℕ) (x : FlatNode) (p : ℕ) (j : Kind) (b : Flat) (y : FlatNode) → found n b.nodes ≡ Some y → y.home ≡ x.home → slice_get y.outputs p ≡ Some j → kind_in x.home (Out n p) b ≡ Some j
own_kind n x p j b y e home out =
    ap (option_and_then (output_kind x.home p)) e ∙ (λ i. if same_place (home i) x.home then out i else None) ∙ ap (λ t. if t then Some j else None) (same_place_self x.home)

module _ (n : ℕ) (x : FlatNode) (a : Flat) (apart : same_node x.home.node (Some n) ≡ false) (r : FlatRegion) (there : region_at x.home a ≡ Some r) where
  -- all uses of an output moved
  moved_is : (p : ℕ) (o : Origin) (b : Flat) → IsOther n o → AreAlike n a b → uses_moved x.home (Out n p) o b ≡ uses_with x.home (origin_replaced (Out n p) o) b
  moved_is p o b other alike =
      let s = region_alike n x.home a b alike r there in
      uses_are_moved x.home (Out n p) o (other_origin n p o other) b s.0 s.1

  moved_alike : (p : ℕ) (o : Origin) (b : Flat) → IsOther n o → AreAlike n a b → AreAlike n a (uses_moved x.home (Out n p) o b)
  moved_alike p o b other alike =
      subst (AreAlike n a) (sym (moved_is p o b other alike))
      (alike_on n a b (uses_with x.home (origin_replaced (Out n p) o) b) alike (alike_uses n x.home (origin_replaced (Out n p) o) b))

  pub none_left : (p : ℕ) (o : Origin) (b : Flat) → IsOther n o → uses_in x.home (Out n p) (uses_moved x.home (Out n p) o b) ≡ 0
  none_left p o b other =
      omega (arith, uses_left x.home (Out n p) o (other_origin n p o other) (uses_in x.home (Out n p) b) b (omega arith))

  -- ---- loop variables

  pub uses_alike : (cs : List (Option Origin)) (k : ℕ) → AllSome (IsOther n) cs → AreAlike n a (uses_carried n x.home k cs a)
  uses_alike [] k h = alike_start n a
  uses_alike (None ∷ cs) k h = uses_alike cs (suc k) h
  uses_alike (Some o ∷ cs) k h = moved_alike k o (uses_carried n x.home (suc k) cs a) h.0 (uses_alike cs (suc k) h.1)

  -- ---- exit variables

  -- what stands before variable p is as it was
  pub record Now (c p : ℕ) (b : Flat) : Type 0 where
    pub exits : ExitsAt n x b c p b
    pub alike : AreAlike n a b

  -- uses of an output move
  exits_moved : (c p q : ℕ) (o : Origin) (b : Flat) → IsOther n o → Now c p b → Now c p (uses_moved x.home (Out n q) o b)
  exits_moved c p q o b other h = record {
    exits = subst (λ z. ExitsAt n x z c p z) (sym is) moved;
    alike = moved_alike q o b other h.alike;
  }
    where
      move : Origin → Origin
      move = origin_replaced (Out n q) o

      is : uses_moved x.home (Out n q) o b ≡ uses_with x.home move b
      is = moved_is q o b other h.alike

      y : FlatNode
      y = h.exits.node

      own : same_place y.home x.home ≡ true
      own = ap (λ (u : Place). same_place u x.home) h.exits.home ∙ same_place_self x.home

      moved : ExitsAt n x (uses_with x.home move b) c p (uses_with x.home move b)
      moved = record {
        node = record y { inputs = map move y.inputs };
        at = record {
          there = found_uses n x.home move b apart ∙ ap (option_map (inputs_at x.home move)) h.exits.at.there ∙ ap Some (input_here x.home move y own);
          number = h.exits.at.number;
          apart = h.exits.at.apart;
        };
        home = h.exits.home;
        outputs = h.exits.outputs;
        uses = λ k lt. refl;
        results = h.exits.results;
      }

  -- an exit variable goes once its uses moved
  pub exit_moved : (c p : ℕ) (o : Origin) (b : Flat) → IsOther n o → Now c (suc p) b → Now c p (exit_removed n c p (uses_moved x.home (Out n p) o b))
  exit_moved c p o b other h =
      let m = exits_moved c (suc p) p o b other h in
      let d = uses_moved x.home (Out n p) o b in
      let gone = exit_goes n x d c p d m.exits in
      record {
        exits = record { node = gone.node; at = gone.at; home = gone.home; outputs = gone.outputs; uses = λ k lt. refl; results = gone.results };
        alike = alike_on n a d (exit_removed n c p d) m.alike (alike_exit n c p m.exits.node d m.exits.at.there m.exits.at.number);
      }

  fewer_now : (c p : ℕ) (b : Flat) → Now c (suc p) b → Now c p b
  fewer_now c p b h = record {
    exits = record {
      node = h.exits.node;
      at = h.exits.at;
      home = h.exits.home;
      outputs = λ k lt. h.exits.outputs k (omega (arith, lt));
      uses = λ k lt. refl;
      results = λ j k lj lt. h.exits.results j k lj (omega (arith, lt));
    };
    alike = h.alike;
  }

  pub exits_now : (c : ℕ) (cs : List (Option Origin)) (k last : ℕ) → k + length cs ≡ last → AllSome (IsOther n) cs → Now c last a → Now c k (exits_carried n c x.home k cs a)
  exits_now c [] k last e h start = subst (λ q. Now c q a) (omega (arith, e)) start
  exits_now c (None ∷ cs) k last e h start = fewer_now c k (exits_carried n c x.home (suc k) cs a) (exits_now c cs (suc k) last (omega (arith, e)) h start)
  exits_now c (Some o ∷ cs) k last e h start = exit_moved c k o (exits_carried n c x.home (suc k) cs a) h.0 (exits_now c cs (suc k) last (omega (arith, e)) h.1 start)

  -- its exit may go
  pub may_go : (c p : ℕ) (o : Origin) (b : Flat) → IsOther n o → Now c (suc p) b → p < length x.outputs → IsExit n c p (uses_moved x.home (Out n p) o b)
  may_go c p o b other h lt =
      let m = exits_moved c (suc p) p o b other h in
      let d = uses_moved x.home (Out n p) o b in
      record {
        node = m.exits.node;
        there = m.exits.at.there;
        number = m.exits.at.number;
        apart = m.exits.at.apart;
        output = within_some p m.exits.node.outputs (ap is_some (m.exits.outputs p (omega arith)) ∙ some_within p x.outputs lt);
        unused = ap (λ q. uses_in q (Out n p) d) m.exits.home ∙ none_left p o b other;
        results = λ j l. m.exits.results j p l (omega arith);
      }

  -- ---- what it costs

  module _ (ms : List ℕ) where
    abbrev pub Free : Origin → Type 0
    Free o = IsOther n o × NamesNone ms o

    names_none : (o : Origin) → Free o → NamesNone (n ∷ ms) o
    names_none (Arg k) h = tt
    names_none (Out m k) h = λ i. other_number n m k h.0 i || h.1 i

    fewer_moved : (p : ℕ) (o : Origin) (b : Flat) → Free o → AreAlike n a b → flat_named (n ∷ ms) (uses_moved x.home (Out n p) o b) + uses_in x.home (Out n p) b ≤ flat_named (n ∷ ms) b
    fewer_moved p o b free alike =
        omega (
          arith,
          ap (flat_named (n ∷ ms)) (moved_is p o b free.0 alike),
          fewer_named n p (n ∷ ms) o (names_none o free) x.home b,
          named_twice n ms b,
        )

    pub others : (cs : List (Option Origin)) → AllSome Free cs → AllSome (IsOther n) cs
    others [] h = tt
    others (None ∷ cs) h = others cs h
    others (Some o ∷ cs) h = (h.0.0, others cs h.1)

    pub uses_spent : (cs : List (Option Origin)) (k : ℕ) → AllSome Free cs →
        uses_cost n x.home k cs a + flat_named (n ∷ ms) (uses_carried n x.home k cs a) ≤ length cs + flat_named (n ∷ ms) a
    uses_spent [] k h = omega arith
    uses_spent (None ∷ cs) k h = omega (arith, uses_spent cs (suc k) h)
    uses_spent (Some o ∷ cs) k h =
        omega (arith, uses_spent cs (suc k) h.1, fewer_moved k o (uses_carried n x.home (suc k) cs a) h.0 (uses_alike cs (suc k) (others cs h.1)))

    pub exits_spent : (c : ℕ) (cs : List (Option Origin)) (k last : ℕ) → k + length cs ≡ last → AllSome Free cs → Now c last a →
        exits_cost n c x.home k cs a + flat_named (n ∷ ms) (exits_carried n c x.home k cs a) ≤ (2 + c) * length cs + flat_named (n ∷ ms) a
    exits_spent c [] k last e h start = omega arith
    exits_spent c (None ∷ cs) k last e h start =
        let less : (2 + c) * length cs ≤ (2 + c) * suc (length cs) = omega (arith, times_suc (2 + c) (length cs)) in
        omega (arith, exits_spent c cs (suc k) last (omega (arith, e)) h start, less)
    exits_spent c (Some o ∷ cs) k last e h start =
        let b = exits_carried n c x.home (suc k) cs a in
        let now = exits_now c cs (suc k) last (omega (arith, e)) (others cs h.1) start in
        let d = uses_moved x.home (Out n k) o b in
        let m = exits_moved c (suc k) k o b h.0.0 now in
        omega (
          arith,
          exits_spent c cs (suc k) last (omega (arith, e)) h.1 start,
          fewer_moved k o b h.0 now.alike,
          fewer_exit (n ∷ ms) n c k m.exits.node d m.exits.at.there m.exits.at.number,
          times_suc (2 + c) (length cs),
        )
