-- The productions of the grammar, which label the nodes of a tree.

-- the levels of binary operators, tightest first (ISO 9899:2011, 6.5.5 to 6.5.14)
pub data Level : Type 0 where
  Multiplicative : Level
  Additive : Level
  Shift : Level
  Relational : Level
  Equality : Level
  BitAnd : Level
  BitXor : Level
  BitOr : Level
  LogicalAnd : Level
  LogicalOr : Level

-- what the grammar repeats any number of times, `{ .. }`
pub data Repeated : Type 0 where
  -- external declarations of a unit
  Externals : Repeated
  -- member declarations after the first one of a struct
  MoreMembers : Repeated
  -- `, member`
  MoreMember : Repeated
  -- `*` of a declarator
  Stars : Repeated
  -- `[cond]`
  Dimensions : Repeated
  -- `[cond]` or `[]`
  OpenDimensions : Repeated
  -- `, decl`
  MoreDecls : Repeated
  -- `, param`
  MoreParams : Repeated
  -- statements and declarations of a block
  Items : Repeated
  -- groups of a `switch`
  Groups : Repeated
  -- labels after the first one of a group
  MoreLabels : Repeated
  -- statements after the first one of a group
  MoreStmts : Repeated
  -- `, assign`
  MoreAssigns : Repeated
  -- string literals after the first one
  MoreLiterals : Repeated

-- what the grammar leaves free, `[ .. ]`
pub data Optional : Type 0 where
  -- `const`
  Constant : Optional
  -- `int` after `short`
  ShortInt : Optional
  -- `char`, `int`, `short` after `signed` or `unsigned`
  SignedBase : Optional
  -- the size in `[ ]`
  Size : Optional
  -- `= init`
  Initialiser : Optional
  -- the name of a parameter
  ParamName : Optional
  -- the parameters of a function
  Params : Optional
  -- an expression of `for` or `return`
  Clause : Optional
  -- the arguments of a call
  Arguments : Optional

pub data Production : Type 0 where
  -- repetitions and options: none, the ones before with one more; absent, present
  Empty : Repeated → Production
  More : Repeated → Production
  Absent : Optional → Production
  Present : Optional → Production
  -- external declarations: those that begin with `static`, with `const`, with a type that is no struct, with `struct`
  Static : Production
  Const : Production
  Plain : Production
  Struct : Production
  -- what follows `struct name`: `;`, members and `;`
  StructName : Production
  StructMembers : Production
  -- what follows the type: `*`s, a name and the rest
  Declared : Production
  -- what follows the name: that of a function, that of variables
  Function : Production
  Globals : Production
  -- the body of a function that is only declared
  Prototype : Production
  -- member declarations and declarators
  Members : Production
  Member : Production
  -- declarations of variables and their declarators
  Locals : Production
  Decl : Production
  -- initialisers: a list in braces; its first element, a comma after elements, an element after a comma
  InitList : Production
  InitFirst : Production
  InitComma : Production
  InitNext : Production
  -- a parameter
  Param : Production
  -- type specifiers
  Void : Production
  Char : Production
  Int : Production
  Short : Production
  Signed : Production
  StructTag : Production
  -- a type name
  TypeName : Production
  -- statements
  Block : Production
  Null : Production
  Expression : Production
  If : Production
  IfElse : Production
  While : Production
  DoWhile : Production
  For : Production
  Break : Production
  Continue : Production
  Return : Production
  Switch : Production
  -- the first clause of a `for` that declares nothing
  ForClause : Production
  -- a group of a `switch` and its labels
  Group : Production
  Case : Production
  Default : Production
  -- expressions
  Expr : Production
  Assignment : Production
  Conditional : Production
  Binary : Level → Production
  Cast : Production
  Increment : Production
  Unary : Production
  Sizeof : Production
  SizeofType : Production
  Index : Production
  Call : Production
  Dot : Production
  Arrow : Production
  PostIncrement : Production
  Name : Production
  Number : Production
  Character : Production
  Text : Production
  Paren : Production
