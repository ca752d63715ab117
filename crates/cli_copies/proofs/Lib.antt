mod Sparse
