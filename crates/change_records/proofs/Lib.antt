mod JoinLemmas
