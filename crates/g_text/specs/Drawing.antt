-- What a drawing has of the edges of its lambda.
use Rattle.std.specs.Prelude.{◌≡◌, ℕ, List, ◌++◌, map, flat_map, codes}
use Rattle.g_graph.specs.Plain.{PlainLambda}
use Rattle.g_text.specs.declared.edges.Place.TheVariants.{Body}
use Rattle.g_text.specs.declared.edges.Ends.{Ends}
use Rattle.g_text.specs.declared.edges.Edge.{Edge}
use Rattle.g_text.specs.Edges.{region_edges, edge_text}

abbrev pub ends_of : List Edge → List Ends
ends_of = map (λ e. e.ends)

-- the edges are those of the lambda, each once, with some styles
abbrev pub AreEdges : PlainLambda → List Edge → Type 0
AreEdges l edges = ends_of edges ≡ region_edges Body l.body

-- The drawing goes to the end of a buffer: its nodes, and then the lines of the lambda's edges, each once.
pub record IsDrawn (before after : List ℕ) (l : PlainLambda) : Type 0 where
  pub nodes : List ℕ
  pub edges : List Edge
  pub once : AreEdges l edges
  pub text : after ≡ before ++ nodes ++ flat_map edge_text edges ++ codes "}\n"
